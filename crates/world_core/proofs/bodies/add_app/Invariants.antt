use Rattle.std.proofs.Common.{◌≡◌, ◌++◌, take, map}
use Rattle.world_core.specs.StandsFor.{place_of_body}
use Rattle.world_core.proofs.BodyLookups.{all_seen}
use Rattle.world_core.proofs.bodies.add_app.Given as goal

abbrev pub invariant-loop-task : goal.invariant-loop-task
invariant-loop-task g l = l.places.items ≡ l.initial.places.items
    ++ map (place_of_body (all_seen l.bodies.items (λ z. (goal.TaskBody-dyn g (z.vtable, z.value)).seen z.value))) (map (λ t. t.body) (take l.task-index l.task-items))
