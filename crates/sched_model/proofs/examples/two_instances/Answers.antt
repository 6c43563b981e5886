use Rattle.sched_model.proofs.SmallModes.{half_example}
use Rattle.sched_model.proofs.examples.two_instances.Goals as goal

pub returns : goal.returns
returns c = half_example
