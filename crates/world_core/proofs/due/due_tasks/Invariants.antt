use Rattle.std.proofs.Common.{◌≡◌, map}
use Rattle.sched_model.specs.Numbers.{below}
use Rattle.world_core.specs.Due.{due_place}
use Rattle.world_core.proofs.due.due_tasks.Given as goal

abbrev pub invariant-loop-place : goal.invariant-loop-place
invariant-loop-place l = l.due.items ≡ map (due_place l.tasks l.offsets) (below l.place)
