use Rattle.std.proofs.Common.{◌≡◌, ◌++◌}
use Rattle.std.specs.List.{flat_map}
use Rattle.sched_model.specs.Numbers.{below}
use Rattle.sched_model.specs.ConstraintProblem.{ordered}
use Rattle.constraint_set.proofs.decisions.add_pairs_of.Given as goal

abbrev pub invariant-loop-second : goal.invariant-loop-second
invariant-loop-second l = l.list ≡ l.initial.list ++ flat_map (ordered l.frame l.first) (below l.second)
