use Rattle.std.proofs.Common.{◌≡◌, drop}
use Rattle.std.specs.List.{flat_map}
use Rattle.app_graph.specs.declared.mode_set.App.{App}
use Rattle.world_core.specs.TaskBodies.{missing_among}
use Rattle.world_core.proofs.BodyLookups.{all_seen}
use Rattle.world_core.proofs.bodies.missing_in_mode.Given as goal

abbrev pub invariant-loop-app : goal.invariant-loop-app
invariant-loop-app g l =
    let bodies = all_seen l.bodies.items (λ z. (goal.TaskBody-dyn g (z.vtable, z.value)).seen z.value) in
    missing_among bodies (flat_map (λ (a : App). a.tasks) l.app-items) ≡ missing_among bodies (flat_map (λ (a : App). a.tasks) (drop l.app-index l.app-items))
