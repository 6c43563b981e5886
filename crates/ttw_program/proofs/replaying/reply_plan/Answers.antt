use Rattle.std.proofs.Common.{map, subst, List, ℕ}
use Rattle.std.specs.Prelude.{IfOk}
use Rattle.ttw_io.specs.Outside.{OfFile, Told}
use Rattle.file_answers.specs.PlanFiles.{OfPlan, OfSchedules, PlanSaidOf}
use Rattle.ttw_program.specs.Replays.{IsReply, TraceDue}
use Rattle.file_answers.proofs.PlanFileLemmas.{of_accepted, of_refused_plan}
use Rattle.ttw_program.proofs.ReplayAnswers.{result_more}
use Rattle.ttw_program.proofs.replaying.reply_plan.Goals as goal

pub returns-in-Accepted-clause-due : goal.returns-in-Accepted-clause-due
returns-in-Accepted-clause-due g c =
    let set = c.args.set in
    let told = g.F.Files.contents c.args.files.now in
    let made = map (λ b. (goal.TaskBody-dyn g (b.vtable, b.value)).seen b.value) c.args.bodies.now.items in
    let plans = c.in-Accepted.accepted.modes in
    let Due = OfSchedules set (TraceDue set made (told c.args.script.now)) in
    let due = subst (λ (k : List ℕ → Told). IfOk c.reply_accepted.result (IsReply made (OfSchedules set (TraceDue set made (k c.args.script.now)) plans))) c.in_ok-accepted.ensures.kept c.reply_accepted.ensures.due in
    result_more made (Due plans) (OfFile (told c.args.plan.now) (OfPlan set Due))
    (λ s t d. of_accepted (told c.args.plan.now) set Due c.in-Accepted.accepted s t (subst (PlanSaidOf set (told c.args.plan.now)) c.in-Accepted.is c.in_ok-accepted.ensures.says) d)
    c.reply_accepted.result due

pub returns-in-Refused-clause-due : goal.returns-in-Refused-clause-due
returns-in-Refused-clause-due g c =
    let set = c.args.set in
    let told = g.F.Files.contents c.args.files.now in
    let made = map (λ b. (goal.TaskBody-dyn g (b.vtable, b.value)).seen b.value) c.args.bodies.now.items in
    of_refused_plan (told c.args.plan.now) set (OfSchedules set (TraceDue set made (told c.args.script.now))) c.in-Refused.answer
    (subst (PlanSaidOf set (told c.args.plan.now)) c.in-Refused.is c.in_ok-accepted.ensures.says)
