use Rattle.std.proofs.Common.{List, length, subst, ap, ◌∙◌}
use Rattle.sched_model.specs.declared.schedule.Schedule.{Schedule}
use Rattle.std.specs.Prelude.{Option}
use Rattle.file_answers.specs.PlanFiles.{PlanSaidOf}
use Rattle.file_answers.proofs.PlanFileLemmas.{of_accepted, of_refused_plan}
use Rattle.plan_picture.specs.Due.{IsPicture}
use Rattle.plan_picture.specs.Picture.{picture_text}
use Rattle.plan_picture.proofs.DrawingLemmas.{one_each}
use Rattle.plan_picture.proofs.drawing.draw_plan.Goals as goal

pub picture_of-requires-clause-each : goal.picture_of-requires-clause-each
picture_of-requires-clause-each g c =
    let told = g.F.Files.contents c.args.files.now c.args.plan.now in
    ap (λ (plans : List (Option Schedule)). length plans) c.as_slice.ensures
    ∙ one_each told c.args.set.now c.in-Accepted.accepted (subst (PlanSaidOf c.args.set.now told) c.in-Accepted.is c.in_ok-accepted.ensures.says)

pub returns-in_ok-picture_of-in-Accepted-clause-due : goal.returns-in_ok-picture_of-in-Accepted-clause-due
returns-in_ok-picture_of-in-Accepted-clause-due g c =
    let told = g.F.Files.contents c.args.files.now c.args.plan.now in
    let set = c.args.set.now in
    let answer = (c.in_ok-picture_of-in-Accepted).field-0 in
    let said = (c.in_ok-picture_of-in-Accepted).ensures in
    of_accepted told set (IsPicture set) c.in-Accepted.accepted answer.status answer.text
    (subst (PlanSaidOf set told) c.in-Accepted.is c.in_ok-accepted.ensures.says)
    (said.status, said.text ∙ ap (picture_text set) c.as_slice.ensures)

pub returns-in-Refused-clause-due : goal.returns-in-Refused-clause-due
returns-in-Refused-clause-due g c =
    let told = g.F.Files.contents c.args.files.now c.args.plan.now in
    of_refused_plan told c.args.set.now (IsPicture c.args.set.now) c.in-Refused.answer
    (subst (PlanSaidOf c.args.set.now told) c.in-Refused.is c.in_ok-accepted.ensures.says)
