use Rattle.std.proofs.Common.{◌≡◌, ◌++◌, take}
use Rattle.std.specs.List.{flat_map}
use Rattle.sched_model.specs.ConstraintProblem.{of_consumer}
use Rattle.constraint_set.proofs.base.add_consumers.Given as goal

abbrev pub invariant-loop-consumer : goal.invariant-loop-consumer
invariant-loop-consumer l = l.list.items ≡ l.initial.list.items ++ flat_map (of_consumer l.frame l.rounds l.message) (take l.consumer-index l.consumers)
