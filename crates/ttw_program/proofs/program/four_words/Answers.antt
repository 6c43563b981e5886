use Rattle.std.proofs.Common.{◌≡◌, map, subst, sym, rules}
use Rattle.std.specs.Prelude.{IfOk}
use Rattle.ttw_program.specs.Commands.{Command, none, of_four, replay}
use Rattle.ttw_program.specs.Due.{OfCommand}
use Rattle.ttw_program.specs.Replays.{IsReply}
use Rattle.ttw_program.proofs.program.four_words.Goals as goal

pub returns-then-eq-clause-due : goal.returns-then-eq-clause-due
returns-then-eq-clause-due g c =
    let told = g.F.Files.contents c.args.files.now in
    let made = map (λ b. (goal.TaskBody-dyn g (b.vtable, b.value)).seen b.value) c.args.bodies.now.items in
    let is : of_four c.args.verb.now c.args.file.now c.args.plan.now c.args.last.now ≡ replay c.args.file.now c.args.plan.now c.args.last.now = search rules in
    subst (λ (k : Command). IfOk c.reply_replay.result (IsReply made (OfCommand k told made))) (sym is) c.reply_replay.ensures.due

pub returns-clause-due : goal.returns-clause-due
returns-clause-due g c =
    let told = g.F.Files.contents c.args.files.now in
    let made = map (λ b. (goal.TaskBody-dyn g (b.vtable, b.value)).seen b.value) c.args.bodies.now.items in
    let is : of_four c.args.verb.now c.args.file.now c.args.plan.now c.args.last.now ≡ none = search rules in
    subst (λ (k : Command). IfOk c.usage_reply.result (IsReply made (OfCommand k told made))) (sym is) (c.usage_reply.ensures.due made)
