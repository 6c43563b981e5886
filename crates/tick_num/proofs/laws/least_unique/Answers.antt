use Rattle.tick_num.proofs.Layers as layers
use Rattle.tick_num.proofs.laws.least_unique.Goals as goal

pub returns : goal.returns
returns c = layers.least_unique
