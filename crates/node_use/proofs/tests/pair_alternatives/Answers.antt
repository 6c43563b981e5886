use Rattle.std.proofs.Common.{◌≡◌, refl, Contains, lit<, negsuc}
use Rattle.sched_model.specs.ConstraintProblem.{places}
use Rattle.node_use.specs.declared.places.TaskTimes.{TaskTimes}
use Rattle.node_use.specs.Between.{plain}
use Rattle.node_use.proofs.tests.pair_alternatives.Goals as goal

stands : (s t : TaskTimes) → s ≡ record { period = 4; deadline = 4; wcet = 1 } → t ≡ record { period = 6; deadline = 6; wcet = 1 } → Contains (places (plain s) (plain t)) (negsuc 1)
stands s t e f = rw (e, f) (1, lit< tt, refl)

pub order_diffs-requires-clause-place : goal.order_diffs-requires-clause-place
order_diffs-requires-clause-place g c = stands c.task-first.result c.task-second.result c.task-first.ensures c.task-second.ensures
