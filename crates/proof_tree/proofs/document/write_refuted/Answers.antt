use Rattle.proof_tree.proofs.WrittenLemmas.{on_err, stops_in_first}
use Rattle.proof_tree.proofs.document.write_refuted.Goals as goal

pub returns-in_err-write_line-clause-err : goal.returns-in_err-write_line-clause-err
returns-in_err-write_line-clause-err c = on_err _ (stops_in_first _ c.in_err-write_line.ensures.err)
