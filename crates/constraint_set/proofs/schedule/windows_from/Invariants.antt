use Rattle.std.proofs.Common.{◌≡◌, ◌+◌, ◌*◌, map}
use Rattle.tick_num.specs.Differences.{listed}
use Rattle.sched_model.specs.Numbers.{below}
use Rattle.constraint_set.proofs.schedule.windows_from.Given as goal

abbrev pub invariant-loop-i : goal.invariant-loop-i
invariant-loop-i l = l.windows.items ≡ map (λ i. (listed l.values (l.from + 2 * i), listed l.values (l.from + 2 * i + 1))) (below l.i)
