use Rattle.std.proofs.Common.{◌≡◌, ◌++◌, map}
use Rattle.sched_model.specs.Numbers.{below}
use Rattle.sched_model.specs.ConstraintProblem.{serve}
use Rattle.constraint_set.proofs.decisions.add_serves.Given as goal

abbrev pub invariant-loop-copy : goal.invariant-loop-copy
invariant-loop-copy l = l.list ≡ l.initial.list ++ map (serve l.message) (below l.copy)
