use Rattle.std.proofs.Common.{subst, List, ℕ}
use Rattle.std.specs.Prelude.{IfOk}
use Rattle.ttw_io.specs.Outside.{OfFile, Told}
use Rattle.file_answers.specs.ModeFiles.{SaysOf}
use Rattle.file_answers.proofs.ModeFileLemmas.{of_refused, said_keeps}
use Rattle.file_answers.proofs.PlanFileLemmas.{answer_said}
use Rattle.plan_picture.specs.Due.{PictureDue}
use Rattle.plan_picture.proofs.drawing.draw_files.Goals as goal

pub draw_plan-requires : goal.draw_plan-requires
draw_plan-requires g c =
    let told = g.F.Files.contents c.args.files.now c.args.file.now in
    said_keeps told c.in-Set.set (subst (SaysOf told) c.in-Set.is c.in_ok-set.ensures.says)

pub returns-in-Set-clause-due : goal.returns-in-Set-clause-due
returns-in-Set-clause-due g c =
    let told = g.F.Files.contents c.args.files.now c.args.file.now in
    let due = subst (λ (k : List ℕ → Told). IfOk c.draw_plan.result (λ a. OfFile (k c.args.plan.now) (PictureDue c.in-Set.set) a.status a.text)) c.in_ok-set.ensures.kept c.draw_plan.ensures.due in
    answer_said told c.in-Set.set (λ set. OfFile (g.F.Files.contents c.args.files.now c.args.plan.now) (PictureDue set)) c.draw_plan.result (subst (SaysOf told) c.in-Set.is c.in_ok-set.ensures.says) due

pub returns-in-Refused-clause-due : goal.returns-in-Refused-clause-due
returns-in-Refused-clause-due g c =
    let told = g.F.Files.contents c.args.files.now c.args.file.now in
    of_refused told c.in-Refused.answer (λ set. OfFile (g.F.Files.contents c.args.files.now c.args.plan.now) (PictureDue set))
    (subst (SaysOf told) c.in-Refused.is c.in_ok-set.ensures.says)
