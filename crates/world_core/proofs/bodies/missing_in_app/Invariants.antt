use Rattle.std.proofs.Common.{◌≡◌, drop}
use Rattle.world_core.specs.TaskBodies.{missing_among}
use Rattle.world_core.proofs.BodyLookups.{all_seen}
use Rattle.world_core.proofs.bodies.missing_in_app.Given as goal

abbrev pub invariant-loop-task : goal.invariant-loop-task
invariant-loop-task g l =
    let bodies = all_seen l.bodies.items (λ z. (goal.TaskBody-dyn g (z.vtable, z.value)).seen z.value) in
    missing_among bodies l.task-items ≡ missing_among bodies (drop l.task-index l.task-items)
