use Rattle.std.specs.Prelude.{codes}
use Rattle.std.proofs.Common.{rules, FitsSigned, w64}
use Rattle.std.proofs.lemmas.Int.{to_z-of_z}
use Rattle.ttw_io.proofs.BufferLemmas.{has_put_same}
use Rattle.replayer.proofs.LineTexts.{line_of, ended_text}
use Rattle.replayer.proofs.line.put_ended.Goals as goal

pub returns-clause-put : goal.returns-clause-put
returns-clause-put g c =
    let fits : FitsSigned w64 c.args.at = search rules in
    let value_fits : FitsSigned w64 c.args.value = search rules in
    has_put_same c.put_all.result _ _ c.args.buffer.now _ _ _ (line_of _ _ (codes " end ") _ _ (simp to_z-of_z at c.signed.ensures) (ended_text _ _ _ _ _ _ c.node-node.ensures c.task-task.ensures (simp to_z-of_z at c.signed-value.ensures))) c.put_all.ensures.put
