use Rattle.sched_model.specs.ConstraintProblem.{serve}
use Rattle.constraint_set.proofs.BaseLists.{map_step}
use Rattle.constraint_set.proofs.decisions.add_serves.Goals as goal

pub loop-copy-preserved : goal.loop-copy-preserved
loop-copy-preserved c = map_step (serve c.args.message) c.loop-copy.copy c.args.list.now c.loop-copy.list c.push.new.self c.loop-copy.invariant c.in_ok-push.ensures
