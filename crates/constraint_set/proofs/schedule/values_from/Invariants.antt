use Rattle.std.proofs.Common.{◌≡◌, ◌+◌, map}
use Rattle.tick_num.specs.Differences.{listed}
use Rattle.sched_model.specs.Numbers.{below}
use Rattle.constraint_set.proofs.schedule.values_from.Given as goal

abbrev pub invariant-loop-k : goal.invariant-loop-k
invariant-loop-k l = l.times.items ≡ map (λ k. listed l.values (l.from + k)) (below l.k)
