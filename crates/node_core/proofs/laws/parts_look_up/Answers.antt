use Rattle.node_core.proofs.PartFinds.{parts_look_up}
use Rattle.node_core.proofs.laws.parts_look_up.Goals as goal

pub returns : goal.returns
returns c = parts_look_up
