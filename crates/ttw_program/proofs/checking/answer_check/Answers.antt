use Rattle.std.proofs.Common.{subst, List, ℕ}
use Rattle.std.specs.Prelude.{IfOk}
use Rattle.ttw_io.specs.Outside.{OfFile, Told}
use Rattle.ttw_program.specs.Checks.{CheckDue}
use Rattle.file_answers.specs.ModeFiles.{SaysOf}
use Rattle.file_answers.proofs.ModeFileLemmas.{of_refused, said_keeps}
use Rattle.file_answers.proofs.PlanFileLemmas.{answer_said}
use Rattle.ttw_program.proofs.checking.answer_check.Goals as goal

pub check_plan-requires : goal.check_plan-requires
check_plan-requires g c =
    said_keeps (g.F.Files.contents c.args.files.now c.args.file.now) c.in-Set.set (subst (SaysOf (g.F.Files.contents c.args.files.now c.args.file.now)) c.in-Set.is c.in_ok-set.ensures.says)

pub returns-in-Set-clause-due : goal.returns-in-Set-clause-due
returns-in-Set-clause-due g c =
    let told = g.F.Files.contents c.args.files.now c.args.file.now in
    let due = subst (λ (k : List ℕ → Told). IfOk c.check_plan.result (λ a. OfFile (k c.args.plan.now) (CheckDue c.in-Set.set) a.status a.text)) c.in_ok-set.ensures.kept c.check_plan.ensures.due in
    answer_said told c.in-Set.set (λ set. OfFile (g.F.Files.contents c.args.files.now c.args.plan.now) (CheckDue set)) c.check_plan.result (subst (SaysOf told) c.in-Set.is c.in_ok-set.ensures.says) due

pub returns-in-Refused-clause-due : goal.returns-in-Refused-clause-due
returns-in-Refused-clause-due g c =
    of_refused (g.F.Files.contents c.args.files.now c.args.file.now) c.in-Refused.answer (λ set. OfFile (g.F.Files.contents c.args.files.now c.args.plan.now) (CheckDue set))
    (subst (SaysOf (g.F.Files.contents c.args.files.now c.args.file.now)) c.in-Refused.is c.in_ok-set.ensures.says)
