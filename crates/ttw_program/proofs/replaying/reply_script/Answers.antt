use Rattle.std.proofs.Common.{map, subst}
use Rattle.ttw_program.specs.ScriptFiles.{ScriptSaidOf}
use Rattle.ttw_program.proofs.ReplayAnswers.{trace_reply}
use Rattle.ttw_program.proofs.replaying.reply_script.Goals as goal

pub returns-in_ok-world-in-Lines-clause-due : goal.returns-in_ok-world-in-Lines-clause-due
returns-in_ok-world-in-Lines-clause-due g c =
    let told = g.F.Files.contents c.args.files.now c.args.script.now in
    let made = map (λ b. (goal.TaskBody-dyn g (b.vtable, b.value)).seen b.value) c.args.bodies.now.items in
    trace_reply told c.args.set c.args.schedules.now made (c.in_ok-world-in-Lines).world c.in-Lines.lines c.requires.rules c.requires.schedules c.requires.bodies (c.in_ok-world-in-Lines).ensures
    (subst (ScriptSaidOf c.args.set told) c.in-Lines.is c.in_ok-lines.ensures.says)
