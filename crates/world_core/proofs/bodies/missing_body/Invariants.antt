use Rattle.std.proofs.Common.{◌≡◌, drop}
use Rattle.std.specs.List.{flat_map}
use Rattle.world_core.specs.TaskBodies.{missing_among, tasks_in}
use Rattle.world_core.proofs.BodyLookups.{all_seen}
use Rattle.world_core.proofs.bodies.missing_body.Given as goal

abbrev pub invariant-loop-mode : goal.invariant-loop-mode
invariant-loop-mode g l =
    let bodies = all_seen l.bodies.items (λ z. (goal.TaskBody-dyn g (z.vtable, z.value)).seen z.value) in
    missing_among bodies (flat_map tasks_in l.mode-items) ≡ missing_among bodies (flat_map tasks_in (drop l.mode-index l.mode-items))
