use Rattle.sched_model.proofs.SmallModes.{shared_example}
use Rattle.sched_model.proofs.examples.shared_node.Goals as goal

pub returns : goal.returns
returns c = shared_example
