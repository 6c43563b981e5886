use Rattle.proof_tree.proofs.LineReading.{lines_are_exact}
use Rattle.proof_tree.proofs.laws.lines_are_exact.Goals as goal

pub returns : goal.returns
returns c = lines_are_exact
