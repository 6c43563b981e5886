use Rattle.std.proofs.Common.{map, subst, List, ℕ}
use Rattle.std.specs.Prelude.{IfOk}
use Rattle.ttw_io.specs.Outside.{OfFile, Told}
use Rattle.file_answers.specs.Due.{OfSet}
use Rattle.file_answers.specs.ModeFiles.{SaysOf}
use Rattle.ttw_program.specs.Replays.{IsReply, ReplayDue}
use Rattle.file_answers.proofs.ModeFileLemmas.{of_said, of_refused, said_keeps}
use Rattle.ttw_program.proofs.ReplayAnswers.{result_more}
use Rattle.ttw_program.proofs.replaying.reply_replay.Goals as goal

pub reply_set-requires : goal.reply_set-requires
reply_set-requires g c =
    let told = g.F.Files.contents c.args.files.now c.args.file.now in
    said_keeps told c.in-Set.set (subst (SaysOf told) c.in-Set.is c.in_ok-set.ensures.says)

pub returns-in-Set-clause-due : goal.returns-in-Set-clause-due
returns-in-Set-clause-due g c =
    let told = g.F.Files.contents c.args.files.now in
    let made = map (λ b. (goal.TaskBody-dyn g (b.vtable, b.value)).seen b.value) c.args.bodies.now.items in
    let Due = ReplayDue (told c.args.plan.now) (told c.args.script.now) made in
    let due = subst (λ (k : List ℕ → Told). IfOk c.reply_set.result (IsReply made (ReplayDue (k c.args.plan.now) (k c.args.script.now) made c.in-Set.set))) c.in_ok-set.ensures.kept c.reply_set.ensures.due in
    result_more made (Due c.in-Set.set) (OfFile (told c.args.file.now) (OfSet Due))
    (λ s t d. of_said (told c.args.file.now) c.in-Set.set Due s t (subst (SaysOf (told c.args.file.now)) c.in-Set.is c.in_ok-set.ensures.says) d)
    c.reply_set.result due

pub returns-in-Refused-clause-due : goal.returns-in-Refused-clause-due
returns-in-Refused-clause-due g c =
    let told = g.F.Files.contents c.args.files.now in
    let made = map (λ b. (goal.TaskBody-dyn g (b.vtable, b.value)).seen b.value) c.args.bodies.now.items in
    of_refused (told c.args.file.now) c.in-Refused.answer (ReplayDue (told c.args.plan.now) (told c.args.script.now) made)
    (subst (SaysOf (told c.args.file.now)) c.in-Refused.is c.in_ok-set.ensures.says)
