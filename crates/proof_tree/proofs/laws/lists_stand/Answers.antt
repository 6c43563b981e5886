use Rattle.proof_tree.proofs.TreeStanding.{lists_stand}
use Rattle.proof_tree.proofs.laws.lists_stand.Goals as goal

pub returns : goal.returns
returns c = lists_stand
