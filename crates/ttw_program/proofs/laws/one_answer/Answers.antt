use Rattle.ttw_program.proofs.OneAnswers.{one_answer}
use Rattle.ttw_program.proofs.laws.one_answer.Goals as goal

pub returns : goal.returns
returns c = one_answer
