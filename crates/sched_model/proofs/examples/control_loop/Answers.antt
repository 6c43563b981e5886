use Rattle.sched_model.proofs.SmallModes.{loop_example}
use Rattle.sched_model.proofs.examples.control_loop.Goals as goal

pub returns : goal.returns
returns c = loop_example
