use Rattle.std.proofs.Common.{subst}
use Rattle.ttw_program.specs.Guards.{GuardDue}
use Rattle.file_answers.specs.ModeFiles.{SaysOf}
use Rattle.file_answers.proofs.ModeFileLemmas.{of_said, of_refused, said_keeps}
use Rattle.ttw_program.proofs.guarding.answer_guard.Goals as goal

pub guard_set-requires-clause-rules : goal.guard_set-requires-clause-rules
guard_set-requires-clause-rules g c =
    said_keeps (g.F.Files.contents c.args.files.now c.args.file.now) c.in-Set.set (subst (SaysOf (g.F.Files.contents c.args.files.now c.args.file.now)) c.in-Set.is c.in_ok-set.ensures.says)

pub returns-in_ok-guard_set-in-Set-clause-due : goal.returns-in_ok-guard_set-in-Set-clause-due
returns-in_ok-guard_set-in-Set-clause-due g c =
    of_said (g.F.Files.contents c.args.files.now c.args.file.now) c.in-Set.set (GuardDue c.args.ppm) c.in_ok-guard_set-in-Set.field-0.status c.in_ok-guard_set-in-Set.field-0.text
    (subst (SaysOf (g.F.Files.contents c.args.files.now c.args.file.now)) c.in-Set.is c.in_ok-set.ensures.says) c.in_ok-guard_set-in-Set.ensures

pub returns-in-Refused-clause-due : goal.returns-in-Refused-clause-due
returns-in-Refused-clause-due g c =
    of_refused (g.F.Files.contents c.args.files.now c.args.file.now) c.in-Refused.answer (GuardDue c.args.ppm)
    (subst (SaysOf (g.F.Files.contents c.args.files.now c.args.file.now)) c.in-Refused.is c.in_ok-set.ensures.says)
