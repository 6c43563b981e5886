use Rattle.std.proofs.Common.{◌≡◌, take, map}
use Rattle.std.specs.List.{flat_map}
use Rattle.world_core.specs.StandsFor.{place_of_body}
use Rattle.world_core.specs.TaskBodies.{bodies_of_mode}
use Rattle.world_core.proofs.BodyLookups.{all_seen}
use Rattle.world_core.proofs.bodies.places.Given as goal

abbrev pub invariant-loop-mode : goal.invariant-loop-mode
invariant-loop-mode g l = l.places.items
    ≡ map (place_of_body (all_seen l.bodies.items (λ z. (goal.TaskBody-dyn g (z.vtable, z.value)).seen z.value))) (flat_map bodies_of_mode (take l.mode-index l.mode-items))
