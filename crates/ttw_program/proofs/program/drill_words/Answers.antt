use Rattle.std.proofs.Common.{◌≡◌, map, subst, sym, rules}
use Rattle.std.specs.Prelude.{IfOk}
use Rattle.ttw_text.specs.Numbers.{number_of}
use Rattle.ttw_program.specs.Commands.{Command, drill_of, none}
use Rattle.ttw_program.specs.Due.{OfCommand}
use Rattle.ttw_program.specs.Replays.{IsReply}
use Rattle.ttw_program.proofs.program.drill_words.Goals as goal

pub returns-in-None-clause-due : goal.returns-in-None-clause-due
returns-in-None-clause-due g c = λ told.
    let made = map (λ b. (goal.TaskBody-dyn g (b.vtable, b.value)).seen b.value) c.args.bodies.now.items in
    let is : drill_of (number_of c.args.seed.now) ≡ none = search rules in
    subst (λ (k : Command). IfOk c.usage_reply.result (IsReply made (OfCommand k told made))) (sym is) (c.usage_reply.ensures.due made)

pub returns-else-seed-le-MOST_SEED-clause-due : goal.returns-else-seed-le-MOST_SEED-clause-due
returns-else-seed-le-MOST_SEED-clause-due g c = λ told.
    let made = map (λ b. (goal.TaskBody-dyn g (b.vtable, b.value)).seen b.value) c.args.bodies.now.items in
    let is : drill_of (number_of c.args.seed.now) ≡ none = search rules in
    subst (λ (k : Command). IfOk c.usage_reply-else-seed-le-MOST_SEED.result (IsReply made (OfCommand k told made))) (sym is) (c.usage_reply-else-seed-le-MOST_SEED.ensures.due made)
