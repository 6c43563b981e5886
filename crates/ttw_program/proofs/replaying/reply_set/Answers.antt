use Rattle.std.proofs.Common.{inr, map}
use Rattle.ttw_io.specs.Outside.{OfFile}
use Rattle.file_answers.specs.PlanFiles.{OfPlan, OfSchedules}
use Rattle.ttw_program.specs.Replays.{ReplayDue, TraceDue}
use Rattle.ttw_program.proofs.ReplayAnswers.{result_more}
use Rattle.ttw_program.proofs.replaying.reply_set.Goals as goal

pub reply_plan-requires-clause-bodies : goal.reply_plan-requires-clause-bodies
reply_plan-requires-clause-bodies g c = c.missing_body.ensures.complete.0 c.in-None.is

pub returns-in-None-clause-due : goal.returns-in-None-clause-due
returns-in-None-clause-due g c =
    let set = c.args.set in
    let told = g.F.Files.contents c.args.files.now in
    let made = map (λ b. (goal.TaskBody-dyn g (b.vtable, b.value)).seen b.value) c.args.bodies.now.items in
    result_more made (OfFile (told c.args.plan.now) (OfPlan set (OfSchedules set (TraceDue set made (told c.args.script.now))))) (ReplayDue (told c.args.plan.now) (told c.args.script.now) made set)
    (λ s t d. inr (c.missing_body.ensures.complete.0 c.in-None.is, d))
    c.reply_plan.result c.reply_plan.ensures.due
