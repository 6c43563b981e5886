use Rattle.sched_model.specs.ConstraintProblem.{of_message}
use Rattle.constraint_set.proofs.BaseLists.{below_step}
use Rattle.constraint_set.proofs.base.add_messages.Goals as goal

pub loop-message-preserved : goal.loop-message-preserved
loop-message-preserved c = below_step (of_message c.args.frame.now c.args.rounds) c.loop-message.message c.args.list.now.items c.loop-message.list.items c.add_message.new.list.items c.loop-message.invariant c.in_ok-add_message.ensures
