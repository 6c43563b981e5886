use Rattle.std.proofs.Common.{subst}
use Rattle.ttw_program.specs.Due.{PlanDue}
use Rattle.file_answers.specs.ModeFiles.{SaysOf}
use Rattle.file_answers.proofs.ModeFileLemmas.{of_said, of_refused, said_keeps}
use Rattle.ttw_program.proofs.planning.answer_plan.Goals as goal

pub plan_set-requires-clause-rules : goal.plan_set-requires-clause-rules
plan_set-requires-clause-rules g c =
    said_keeps (g.F.Files.contents c.args.files.now c.args.file.now) c.in-Set.set (subst (SaysOf (g.F.Files.contents c.args.files.now c.args.file.now)) c.in-Set.is c.in_ok-set.ensures.says)

pub returns-in_ok-plan_set-in-Set-clause-due : goal.returns-in_ok-plan_set-in-Set-clause-due
returns-in_ok-plan_set-in-Set-clause-due g c =
    of_said (g.F.Files.contents c.args.files.now c.args.file.now) c.in-Set.set (PlanDue c.args.budget) c.in_ok-plan_set-in-Set.field-0.status c.in_ok-plan_set-in-Set.field-0.text
    (subst (SaysOf (g.F.Files.contents c.args.files.now c.args.file.now)) c.in-Set.is c.in_ok-set.ensures.says) c.in_ok-plan_set-in-Set.ensures

pub returns-in-Refused-clause-due : goal.returns-in-Refused-clause-due
returns-in-Refused-clause-due g c =
    of_refused (g.F.Files.contents c.args.files.now c.args.file.now) c.in-Refused.answer (PlanDue c.args.budget)
    (subst (SaysOf (g.F.Files.contents c.args.files.now c.args.file.now)) c.in-Refused.is c.in_ok-set.ensures.says)
