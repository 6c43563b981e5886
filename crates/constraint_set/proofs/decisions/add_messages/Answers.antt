use Rattle.sched_model.specs.ConstraintProblem.{serves}
use Rattle.constraint_set.proofs.BaseLists.{below_step}
use Rattle.constraint_set.proofs.decisions.add_messages.Goals as goal

pub loop-message-preserved : goal.loop-message-preserved
loop-message-preserved c = below_step (serves c.args.frame.now) c.loop-message.message c.args.list.now c.loop-message.list c.add_message.new.list c.loop-message.invariant c.in_ok-add_message.ensures
