use Rattle.std.proofs.Common.{◌≡◌, subst, sym, rules}
use Rattle.std.specs.Prelude.{IfOk}
use Rattle.ttw_program.specs.Commands.{Command, none, of_three}
use Rattle.ttw_program.specs.Due.{OfCommand}
use Rattle.ttw_program.specs.Replays.{IsReply}
use Rattle.ttw_program.proofs.program.three_words.Goals as goal

pub returns-clause-due : goal.returns-clause-due
returns-clause-due g c = λ bodies now.
    let told = g.F.Files.contents c.args.files.now in
    let is : of_three c.args.verb.now c.args.file.now c.args.last.now ≡ none = search rules in
    subst (λ (k : Command). IfOk c.usage_reply.result (IsReply now (OfCommand k told bodies))) (sym is) (c.usage_reply.ensures.due now)
