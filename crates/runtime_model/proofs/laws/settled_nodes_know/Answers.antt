use Rattle.runtime_model.proofs.Knowing.{settled_nodes_know}
use Rattle.runtime_model.proofs.laws.settled_nodes_know.Goals as goal

pub returns : goal.returns
returns c = settled_nodes_know
