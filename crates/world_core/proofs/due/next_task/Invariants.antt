use Rattle.std.proofs.Common.{◌≤◌, take}
use Rattle.world_core.specs.Due.{NoTask}
use Rattle.world_core.proofs.due.next_task.Given as goal

abbrev pub invariant-loop-task : goal.invariant-loop-task
invariant-loop-task l = record {
  from : l.tick ≤ l.next;
  most : l.next ≤ l.most;
  quiet : NoTask (take l.task-index l.tasks) l.tick l.next;
}
