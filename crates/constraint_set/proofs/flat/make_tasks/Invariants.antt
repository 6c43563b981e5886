use Rattle.std.proofs.Common.{◌≡◌, ◌++◌, drop, map}
use Rattle.sched_model.specs.PlainMode.{plain_task, tasks_of}
use Rattle.constraint_set.proofs.flat.make_tasks.Given as goal

abbrev pub invariant-loop-place : goal.invariant-loop-place
invariant-loop-place l = l.tasks.items ++ map plain_task (tasks_of l.place (drop l.place l.apps)) ≡ map plain_task (tasks_of 0 l.apps)
