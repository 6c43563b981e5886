use Rattle.std.proofs.Common.{arith, subst, sym, List}
use Rattle.sched_model.specs.declared.schedule.Schedule.{Schedule}
use Rattle.runtime_model.specs.Plans.{AreSchedules}
use Rattle.file_answers.specs.PlanFiles.{HasSchedules}
use Rattle.ttw_program.proofs.TableAnswers.{schedules_right, few_before}
use Rattle.ttw_program.proofs.drilling.drill_plans.Goals as goal

pub drill_schedules-requires-clause-schedules : goal.drill_schedules-requires-clause-schedules
drill_schedules-requires-clause-schedules g c =
    let has = subst (HasSchedules c.args.plans) c.in-All.is c.in_ok-schedules.ensures in
    subst (λ (xs : List Schedule). AreSchedules c.args.set.now xs) (sym c.as_slice.ensures.value) (schedules_right c.args.set.now c.args.plans c.in-All.schedules.items c.requires.right has)

pub overflow_cast-mode : goal.overflow_cast-mode
overflow_cast-mode g c =
    let lacks = subst (HasSchedules c.args.plans) c.in-Without.is c.in_ok-schedules.ensures in
    omega (arith, few_before c.args.set.now c.args.plans c.in-Without.mode c.requires.rules c.requires.right lacks)
