use Rattle.proof_tree.proofs.TreesAreValid.{trees_are_valid}
use Rattle.proof_tree.proofs.laws.trees_are_valid.Goals as goal

pub returns : goal.returns
returns c = trees_are_valid
