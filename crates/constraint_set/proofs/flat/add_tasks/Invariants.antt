use Rattle.std.proofs.Common.{◌≡◌, ◌++◌, take, map}
use Rattle.constraint_set.specs.Flat.{task_in}
use Rattle.constraint_set.proofs.flat.add_tasks.Given as goal

abbrev pub invariant-loop-task : goal.invariant-loop-task
invariant-loop-task l = l.tasks.items ≡ l.initial.tasks.items ++ map (task_in l.place l.app) (take l.task-index l.task-items)
