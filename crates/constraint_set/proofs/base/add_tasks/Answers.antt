use Rattle.sched_model.specs.ConstraintProblem.{of_task}
use Rattle.constraint_set.proofs.BaseLists.{below_step}
use Rattle.constraint_set.proofs.base.add_tasks.Goals as goal

pub loop-task-preserved : goal.loop-task-preserved
loop-task-preserved c = below_step (of_task c.args.frame.now c.args.rounds) c.loop-task.task c.args.list.now.items c.loop-task.list.items c.add_task.new.list.items c.loop-task.invariant c.in_ok-add_task.ensures
