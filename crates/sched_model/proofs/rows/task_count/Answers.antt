use Rattle.std.proofs.Common.{arith, ◌∙◌}
use Rattle.sched_model.proofs.RowPlaces.{tasks_are, few_tasks}
use Rattle.sched_model.proofs.rows.task_count.Goals as goal

pub count_tasks-requires : goal.count_tasks-requires
count_tasks-requires c = few_tasks c.args.set.now c.args.mode c.apps_of.result.now c.apps_of.ensures c.requires.rules c.requires.mode

pub returns-clause-value : goal.returns-clause-value
returns-clause-value c = c.count_tasks.ensures ∙ tasks_are c.args.set.now c.args.mode c.apps_of.result.now c.apps_of.ensures

pub returns-clause-most : goal.returns-clause-most
returns-clause-most c = omega (arith, c.count_tasks.ensures, few_tasks c.args.set.now c.args.mode c.apps_of.result.now c.apps_of.ensures c.requires.rules c.requires.mode)
