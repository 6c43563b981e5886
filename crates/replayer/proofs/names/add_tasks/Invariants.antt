use Rattle.std.proofs.Common.{◌≡◌, ◌++◌, take, map}
use Rattle.replayer.proofs.names.add_tasks.Given as goal

abbrev pub invariant-loop-task : goal.invariant-loop-task
invariant-loop-task l = l.names ≡ l.initial.names ++ map (λ t. t.name) (take l.task-index l.task-items)
