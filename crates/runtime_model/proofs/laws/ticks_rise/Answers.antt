use Rattle.runtime_model.proofs.FirstTicks.{ticks_rise}
use Rattle.runtime_model.proofs.laws.ticks_rise.Goals as goal

pub returns : goal.returns
returns c = ticks_rise
