use Rattle.std.proofs.Common.{◌≡◌, ◌++◌, take}
use Rattle.std.specs.List.{flat_map}
use Rattle.sched_model.specs.ConstraintProblem.{of_producer}
use Rattle.constraint_set.proofs.base.add_producers.Given as goal

abbrev pub invariant-loop-producer : goal.invariant-loop-producer
invariant-loop-producer l = l.list.items ≡ l.initial.list.items ++ flat_map (of_producer l.frame l.rounds l.message) (take l.producer-index l.producers)
