use Rattle.std.proofs.Common.{◌≡◌, map, subst, sym, rules}
use Rattle.std.specs.Prelude.{IfOk}
use Rattle.ttw_text.specs.Numbers.{number_of}
use Rattle.ttw_program.specs.Commands.{Command, drill_of, none, of_two}
use Rattle.ttw_program.specs.Due.{OfCommand}
use Rattle.ttw_program.specs.Replays.{IsReply}
use Rattle.ttw_program.proofs.program.two_words.Goals as goal

pub returns-clause-due : goal.returns-clause-due
returns-clause-due g c = λ told.
    let made = map (λ b. (goal.TaskBody-dyn g (b.vtable, b.value)).seen b.value) c.args.bodies.now.items in
    let is : of_two c.args.verb.now c.args.last.now ≡ none = search rules in
    subst (λ (k : Command). IfOk c.usage_reply.result (IsReply made (OfCommand k told made))) (sym is) (c.usage_reply.ensures.due made)

pub returns-then-eq-clause-due : goal.returns-then-eq-clause-due
returns-then-eq-clause-due g c = λ told.
    let made = map (λ b. (goal.TaskBody-dyn g (b.vtable, b.value)).seen b.value) c.args.bodies.now.items in
    let now = map (λ b. (goal.TaskBody-dyn g (b.vtable, b.value)).seen b.value) c.drill_words.new.bodies.items in
    let is : of_two c.args.verb.now c.args.last.now ≡ drill_of (number_of c.args.last.now) = search rules in
    subst (λ (k : Command). IfOk c.drill_words.result (IsReply now (OfCommand k told made))) (sym is) (c.drill_words.ensures.due told)
