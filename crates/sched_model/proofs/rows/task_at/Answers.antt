use Rattle.std.proofs.Common.{arith, sym, subst}
use Rattle.sched_model.specs.declared.rows.TaskRow.{TaskRow}
use Rattle.sched_model.specs.PlainMode.{task_at, plain_at}
use Rattle.sched_model.specs.Rows.{ShowsTask}
use Rattle.sched_model.proofs.RowPlaces.{tasks_are, task_shown}
use Rattle.sched_model.proofs.rows.task_at.Goals as goal

pub find_task-requires : goal.find_task-requires
find_task-requires c = omega (arith, c.requires.place, tasks_are c.args.set.now c.args.mode c.apps_of.result.now c.apps_of.ensures)

pub returns : goal.returns
returns c =
    subst (λ (r : TaskRow). ShowsTask r (task_at (plain_at c.args.set.now c.args.mode) c.args.place)) (sym c.find_task.ensures)
    (task_shown c.args.set.now c.args.mode c.apps_of.result.now c.apps_of.ensures c.requires.rules c.requires.mode c.args.place c.requires.place)
