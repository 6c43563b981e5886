use Rattle.proof_tree.proofs.TextReading.{texts_are_read}
use Rattle.proof_tree.proofs.laws.texts_are_read.Goals as goal

pub returns : goal.returns
returns c = texts_are_read
