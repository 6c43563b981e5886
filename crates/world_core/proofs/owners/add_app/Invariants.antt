use Rattle.std.proofs.Common.{◌≡◌, ◌++◌, take, map}
use Rattle.world_core.proofs.owners.add_app.Given as goal

abbrev pub invariant-loop-task : goal.invariant-loop-task
invariant-loop-task l = l.owners.items ≡ l.initial.owners.items ++ map (λ t. t.node) (take l.task-index l.task-items)
