use Rattle.sched_model.proofs.SmallModes.{double_example}
use Rattle.sched_model.proofs.examples.two_copies.Goals as goal

pub returns : goal.returns
returns c = double_example
