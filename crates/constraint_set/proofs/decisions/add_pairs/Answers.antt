use Rattle.sched_model.specs.ConstraintProblem.{orders}
use Rattle.constraint_set.proofs.BaseLists.{below_step}
use Rattle.constraint_set.proofs.decisions.add_pairs.Goals as goal

pub loop-first-preserved : goal.loop-first-preserved
loop-first-preserved c = below_step (orders c.args.frame.now) c.loop-first.first c.args.list.now c.loop-first.list c.add_pairs_of.new.list c.loop-first.invariant c.in_ok-add_pairs_of.ensures
