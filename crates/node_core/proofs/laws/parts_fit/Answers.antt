use Rattle.node_core.proofs.PartLimits.{parts_fit}
use Rattle.node_core.proofs.laws.parts_fit.Goals as goal

pub returns : goal.returns
returns c = parts_fit
