use Rattle.proof_tree.proofs.WrittenLemmas.{on_err, stops_before}
use Rattle.proof_tree.proofs.words.write_spaced.Goals as goal

pub returns-in_err-put-clause-err : goal.returns-in_err-put-clause-err
returns-in_err-put-clause-err c = on_err _ (stops_before _ _ _ c.in_err-put.ensures.err)
