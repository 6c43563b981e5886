use Rattle.sched_model.proofs.SmallModes.{blink_example}
use Rattle.sched_model.proofs.examples.rounds_for_gap.Goals as goal

pub returns : goal.returns
returns c = blink_example
