use Rattle.std.proofs.Common.{◌≡◌, fold, map, length}
use Rattle.sched_model.specs.Numbers.{below}
use Rattle.world_core.specs.WorldSteps.{reset_one}
use Rattle.world_core.proofs.kept.reset.Given as goal

-- the bodies of the tasks so far were reset
abbrev pub invariant-loop-task : goal.invariant-loop-task
invariant-loop-task g l =
    (map (λ b. (goal.TaskBody-dyn g (b.vtable, b.value)).seen b.value) l.bodies.items
    ≡ fold (reset_one l.owners l.places l.node) (map (λ b. (goal.TaskBody-dyn g (b.vtable, b.value)).seen b.value) l.fn.bodies.items) (below l.task))
    × (length l.bodies.items ≡ length l.fn.bodies.items)
