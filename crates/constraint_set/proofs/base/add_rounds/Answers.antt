use Rattle.sched_model.specs.ConstraintProblem.{next_round}
use Rattle.constraint_set.proofs.BaseLists.{below_step}
use Rattle.constraint_set.proofs.base.add_rounds.Goals as goal

pub loop-j-preserved : goal.loop-j-preserved
loop-j-preserved c = below_step (next_round c.args.frame.now) c.loop-j.j c.args.list.now.items c.loop-j.list.items c.add_next_round.new.list.items c.loop-j.invariant c.in_ok-add_next_round.ensures
