use Rattle.proof_tree.proofs.TreeStanding.{trees_stand}
use Rattle.proof_tree.proofs.laws.trees_stand.Goals as goal

pub returns : goal.returns
returns c = trees_stand
