use Rattle.proof_tree.proofs.DocumentAnswers.{accepted_are_best}
use Rattle.proof_tree.proofs.laws.accepted_are_best.Goals as goal

pub returns : goal.returns
returns c = accepted_are_best
