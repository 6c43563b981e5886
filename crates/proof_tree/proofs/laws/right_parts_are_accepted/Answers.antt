use Rattle.proof_tree.proofs.PartsStanding.{right_parts_are_accepted}
use Rattle.proof_tree.proofs.laws.right_parts_are_accepted.Goals as goal

pub returns : goal.returns
returns c = right_parts_are_accepted
