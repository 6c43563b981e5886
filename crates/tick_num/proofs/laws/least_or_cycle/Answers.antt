use Rattle.tick_num.proofs.Layers as layers
use Rattle.tick_num.proofs.laws.least_or_cycle.Goals as goal

pub returns : goal.returns
returns c = layers.least_or_cycle
