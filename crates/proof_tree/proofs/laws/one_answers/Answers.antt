use Rattle.proof_tree.proofs.DocumentAnswers.{one_answers}
use Rattle.proof_tree.proofs.laws.one_answers.Goals as goal

pub returns : goal.returns
returns c = one_answers
