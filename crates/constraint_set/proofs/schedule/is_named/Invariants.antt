use Rattle.std.proofs.Common.{◌≡◌, ◌+◌, ◌-◌, ◌%◌, false, eqb, get_or, pos}
use Rattle.std.specs.List.{list_any}
use Rattle.sched_model.specs.Numbers.{below, natural}
use Rattle.constraint_set.proofs.schedule.is_named.Given as goal

abbrev pub invariant-loop-k : goal.invariant-loop-k
invariant-loop-k l = list_any (λ k. eqb ((natural (get_or l.choices (l.first + k) (pos 0)) - 1) % l.rounds) l.round) (below l.k) ≡ false
