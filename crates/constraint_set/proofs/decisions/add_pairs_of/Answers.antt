use Rattle.sched_model.specs.ConstraintProblem.{ordered}
use Rattle.constraint_set.proofs.BaseLists.{below_step}
use Rattle.constraint_set.proofs.decisions.add_pairs_of.Goals as goal

pub loop-second-preserved : goal.loop-second-preserved
loop-second-preserved c = below_step (ordered c.args.frame.now c.args.first) c.loop-second.second c.args.list.now c.loop-second.list c.add_pair.new.list c.loop-second.invariant c.in_ok-add_pair.ensures
