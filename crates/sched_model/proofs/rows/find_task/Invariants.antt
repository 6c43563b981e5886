use Rattle.std.proofs.Common.{◌≡◌, ◌<◌, length, drop}
use Rattle.sched_model.specs.Rows.{tasks_in, task_in}
use Rattle.sched_model.proofs.rows.find_task.Given as goal

abbrev pub invariant-loop-app : goal.invariant-loop-app
invariant-loop-app l = record {
  within : l.left < length (tasks_in (drop l.app-index l.apps));
  same : task_in (drop l.app-index l.apps) l.left ≡ task_in l.apps l.place;
}
