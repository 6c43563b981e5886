use Rattle.std.proofs.Common.{◌≡◌, ◌+◌, length, drop}
use Rattle.sched_model.specs.Rows.{tasks_in}
use Rattle.sched_model.proofs.rows.count_tasks.Given as goal

abbrev pub invariant-loop-app : goal.invariant-loop-app
invariant-loop-app l = l.count + length (tasks_in (drop l.app-index l.apps)) ≡ length (tasks_in l.apps)
