use Rattle.std.proofs.Common.{◌≡◌, ◌++◌, take, map}
use Rattle.std.specs.List.{flat_map}
use Rattle.world_core.specs.StandsFor.{place_of_body}
use Rattle.world_core.specs.TaskBodies.{bodies_in}
use Rattle.world_core.proofs.BodyLookups.{all_seen}
use Rattle.world_core.proofs.bodies.add_mode.Given as goal

abbrev pub invariant-loop-app : goal.invariant-loop-app
invariant-loop-app g l = l.places.items ≡ l.initial.places.items
    ++ map (place_of_body (all_seen l.bodies.items (λ z. (goal.TaskBody-dyn g (z.vtable, z.value)).seen z.value))) (flat_map bodies_in (take l.app-index l.app-items))
