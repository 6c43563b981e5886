use Rattle.std.proofs.Common.{arith, inr, map, subst, sym, List}
use Rattle.sched_model.specs.declared.schedule.Schedule.{Schedule}
use Rattle.runtime_model.specs.Plans.{AreSchedules}
use Rattle.file_answers.specs.PlanFiles.{HasSchedules, OfSchedules}
use Rattle.ttw_program.specs.Replays.{TraceDue}
use Rattle.ttw_program.proofs.ReplayAnswers.{result_more}
use Rattle.ttw_program.proofs.TableAnswers.{schedules_right, few_before}
use Rattle.ttw_program.proofs.replaying.reply_accepted.Goals as goal

pub reply_script-requires-clause-schedules : goal.reply_script-requires-clause-schedules
reply_script-requires-clause-schedules g c =
    let has = subst (HasSchedules c.args.plans) c.in-All.is c.in_ok-schedules.ensures in
    subst (λ (xs : List Schedule). AreSchedules c.args.set xs) (sym c.as_slice.ensures.value) (schedules_right c.args.set c.args.plans c.in-All.schedules.items c.requires.right has)

pub overflow_cast-mode : goal.overflow_cast-mode
overflow_cast-mode g c =
    let lacks = subst (HasSchedules c.args.plans) c.in-Without.is c.in_ok-schedules.ensures in
    omega (arith, few_before c.args.set c.args.plans c.in-Without.mode c.requires.rules c.requires.right lacks)

pub returns-in-All-clause-due : goal.returns-in-All-clause-due
returns-in-All-clause-due g c =
    let told = g.F.Files.contents c.args.files.now c.args.script.now in
    let made = map (λ b. (goal.TaskBody-dyn g (b.vtable, b.value)).seen b.value) c.args.bodies.now.items in
    let has = subst (HasSchedules c.args.plans) c.in-All.is c.in_ok-schedules.ensures in
    result_more made (TraceDue c.args.set made told c.as_slice.result.now) (OfSchedules c.args.set (TraceDue c.args.set made told) c.args.plans)
    (λ s t d. inr (c.in-All.schedules.items, has, subst (λ (xs : List Schedule). TraceDue c.args.set made told xs s t) c.as_slice.ensures.value d))
    c.reply_script.result c.reply_script.ensures.due
