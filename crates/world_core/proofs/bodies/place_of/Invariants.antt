use Rattle.world_core.proofs.BodyLookups.{NoneBefore, all_seen}
use Rattle.world_core.proofs.bodies.place_of.Given as goal

abbrev pub invariant-loop-place : goal.invariant-loop-place
invariant-loop-place g l = NoneBefore (all_seen l.bodies.items (λ z. (goal.TaskBody-dyn g (z.vtable, z.value)).seen z.value)) l.text l.place
