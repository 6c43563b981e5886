use Rattle.std.proofs.Common.{subst, List, ℕ}
use Rattle.std.specs.Prelude.{IfOk}
use Rattle.ttw_io.specs.Outside.{Told}
use Rattle.file_answers.specs.ModeFiles.{SaysOf}
use Rattle.ttw_program.specs.Tables.{TablesDue}
use Rattle.file_answers.proofs.ModeFileLemmas.{of_refused, said_keeps}
use Rattle.file_answers.proofs.PlanFileLemmas.{answer_said}
use Rattle.ttw_program.proofs.tables.answer_tables.Goals as goal

pub tables_node-requires : goal.tables_node-requires
tables_node-requires g c =
    said_keeps (g.F.Files.contents c.args.files.now c.args.file.now) c.in-Set.set (subst (SaysOf (g.F.Files.contents c.args.files.now c.args.file.now)) c.in-Set.is c.in_ok-set.ensures.says)

pub returns-in-Set-clause-due : goal.returns-in-Set-clause-due
returns-in-Set-clause-due g c =
    let told = g.F.Files.contents c.args.files.now c.args.file.now in
    let due = subst (λ (k : List ℕ → Told). IfOk c.tables_node.result (λ a. TablesDue (k c.args.plan.now) c.args.node.now c.in-Set.set a.status a.text)) c.in_ok-set.ensures.kept c.tables_node.ensures.due in
    answer_said told c.in-Set.set (TablesDue (g.F.Files.contents c.args.files.now c.args.plan.now) c.args.node.now) c.tables_node.result (subst (SaysOf told) c.in-Set.is c.in_ok-set.ensures.says) due

pub returns-in-Refused-clause-due : goal.returns-in-Refused-clause-due
returns-in-Refused-clause-due g c =
    of_refused (g.F.Files.contents c.args.files.now c.args.file.now) c.in-Refused.answer (TablesDue (g.F.Files.contents c.args.files.now c.args.plan.now) c.args.node.now)
    (subst (SaysOf (g.F.Files.contents c.args.files.now c.args.file.now)) c.in-Refused.is c.in_ok-set.ensures.says)
