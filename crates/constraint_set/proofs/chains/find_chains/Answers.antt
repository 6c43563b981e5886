use Rattle.std.proofs.Common.{[]}
use Rattle.sched_model.specs.ConstraintProblem.{of_first}
use Rattle.constraint_set.proofs.BaseLists.{below_step}
use Rattle.constraint_set.proofs.chains.find_chains.Goals as goal

pub loop-start-preserved : goal.loop-start-preserved
loop-start-preserved c = below_step (of_first c.args.frame.now 0) c.loop-start.start [] c.loop-start.chains.items c.add_first.new.chains.items c.loop-start.invariant c.in_ok-add_first.ensures
