use Rattle.std.proofs.Common.{subst}
use Rattle.ttw_program.specs.Checks.{IsVerdict}
use Rattle.file_answers.specs.PlanFiles.{PlanSaidOf}
use Rattle.file_answers.proofs.PlanFileLemmas.{of_accepted, of_refused_plan}
use Rattle.ttw_program.proofs.checking.check_plan.Goals as goal

pub returns-in_ok-accepted_answer-in-Accepted-clause-due : goal.returns-in_ok-accepted_answer-in-Accepted-clause-due
returns-in_ok-accepted_answer-in-Accepted-clause-due g c =
    let told = g.F.Files.contents c.args.files.now c.args.plan.now in
    let answer = (c.in_ok-accepted_answer-in-Accepted).field-0 in
    let said = (c.in_ok-accepted_answer-in-Accepted).ensures in
    of_accepted told c.args.set.now (IsVerdict c.args.set.now) c.in-Accepted.accepted answer.status answer.text
    (subst (PlanSaidOf c.args.set.now told) c.in-Accepted.is c.in_ok-accepted.ensures.says) (said.status, said.text)

pub returns-in-Refused-clause-due : goal.returns-in-Refused-clause-due
returns-in-Refused-clause-due g c =
    let told = g.F.Files.contents c.args.files.now c.args.plan.now in
    of_refused_plan told c.args.set.now (IsVerdict c.args.set.now) c.in-Refused.answer
    (subst (PlanSaidOf c.args.set.now told) c.in-Refused.is c.in_ok-accepted.ensures.says)
