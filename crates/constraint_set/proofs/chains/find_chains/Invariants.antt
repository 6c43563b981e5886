use Rattle.std.proofs.Common.{◌≡◌}
use Rattle.std.specs.List.{flat_map}
use Rattle.sched_model.specs.Numbers.{below}
use Rattle.sched_model.specs.ConstraintProblem.{of_first}
use Rattle.constraint_set.proofs.chains.find_chains.Given as goal

abbrev pub invariant-loop-start : goal.invariant-loop-start
invariant-loop-start l = l.chains.items ≡ flat_map (of_first l.frame 0) (below l.start)
