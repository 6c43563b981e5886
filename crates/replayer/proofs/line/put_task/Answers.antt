use Rattle.std.proofs.Common.{rules, FitsSigned, w64}
use Rattle.std.proofs.lemmas.Int.{to_z-of_z}
use Rattle.ttw_io.proofs.BufferLemmas.{has_put_same}
use Rattle.replayer.proofs.LineTexts.{task_line}
use Rattle.replayer.proofs.line.put_task.Goals as goal

pub returns-clause-put : goal.returns-clause-put
returns-clause-put g c =
    let fits : FitsSigned w64 c.args.at = search rules in
    has_put_same c.put_all.result _ _ c.args.buffer.now _ _ _ (task_line _ _ c.args.word.now _ _ _ _ (simp to_z-of_z at c.signed.ensures) c.node-node.ensures c.task-task.ensures) c.put_all.ensures.put
