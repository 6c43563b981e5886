use Rattle.std.proofs.Common.{◌≡◌, ◌++◌}
use Rattle.std.specs.List.{flat_map}
use Rattle.sched_model.specs.Numbers.{below}
use Rattle.sched_model.specs.ConstraintProblem.{orders}
use Rattle.constraint_set.proofs.decisions.add_pairs.Given as goal

abbrev pub invariant-loop-first : goal.invariant-loop-first
invariant-loop-first l = l.list ≡ l.initial.list ++ flat_map (orders l.frame) (below l.first)
