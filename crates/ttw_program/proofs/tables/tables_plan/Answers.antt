use Rattle.std.proofs.Common.{subst}
use Rattle.file_answers.specs.PlanFiles.{OfSchedules, PlanSaidOf}
use Rattle.ttw_program.specs.Tables.{IsImage}
use Rattle.file_answers.proofs.PlanFileLemmas.{accepted_right, of_accepted, of_refused_plan}
use Rattle.ttw_program.proofs.tables.tables_plan.Goals as goal

pub tables_accepted-requires-clause-right : goal.tables_accepted-requires-clause-right
tables_accepted-requires-clause-right g c =
    let told = g.F.Files.contents c.args.files.now c.args.plan.now in
    accepted_right told c.args.set.now c.in-Accepted.accepted (subst (PlanSaidOf c.args.set.now told) c.in-Accepted.is c.in_ok-accepted.ensures.says)

pub returns-in_ok-tables_accepted-in-Accepted-clause-due : goal.returns-in_ok-tables_accepted-in-Accepted-clause-due
returns-in_ok-tables_accepted-in-Accepted-clause-due g c =
    let told = g.F.Files.contents c.args.files.now c.args.plan.now in
    let answer = (c.in_ok-tables_accepted-in-Accepted).field-0 in
    of_accepted told c.args.set.now (OfSchedules c.args.set.now (IsImage c.args.set.now c.args.node)) c.in-Accepted.accepted answer.status answer.text
    (subst (PlanSaidOf c.args.set.now told) c.in-Accepted.is c.in_ok-accepted.ensures.says) (c.in_ok-tables_accepted-in-Accepted).ensures

pub returns-in-Refused-clause-due : goal.returns-in-Refused-clause-due
returns-in-Refused-clause-due g c =
    let told = g.F.Files.contents c.args.files.now c.args.plan.now in
    of_refused_plan told c.args.set.now (OfSchedules c.args.set.now (IsImage c.args.set.now c.args.node)) c.in-Refused.answer
    (subst (PlanSaidOf c.args.set.now told) c.in-Refused.is c.in_ok-accepted.ensures.says)
