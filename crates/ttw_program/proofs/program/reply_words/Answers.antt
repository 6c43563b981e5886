use Rattle.std.proofs.Common.{subst, sym, arith, List, [], ℕ, map, Bor}
use Rattle.std.specs.Prelude.{IfOk}
use Rattle.std.proofs.lemmas.List.{length-map}
use Rattle.ttw_program.specs.Commands.{Command}
use Rattle.ttw_program.specs.Due.{OfCommand}
use Rattle.ttw_program.specs.Replays.{IsReply}
use Rattle.ttw_program.proofs.CheckAnswers.{few_words, many_words, three_are, two_are}
use Rattle.ttw_program.proofs.program.reply_words.Goals as goal

pub returns-in-len1-clause-due : goal.returns-in-len1-clause-due
returns-in-len1-clause-due g c =
    let words : List (List ℕ) = map (λ w. w.now) c.args.words.now in
    let made = map (λ b. (goal.TaskBody-dyn g (b.vtable, b.value)).seen b.value) c.args.bodies.now.items in
    subst (λ (k : Command). IfOk c.usage_reply-in-len1.result (IsReply made (OfCommand k (g.F.Files.contents c.args.files.now) made)))
    (sym (few_words words (omega (arith, length-map c.args.words.now (λ w. w.now), c.in-len1.len_below)))) (c.usage_reply-in-len1.ensures.due made)

pub returns-in-empty-clause-due : goal.returns-in-empty-clause-due
returns-in-empty-clause-due g c =
    let words : List (List ℕ) = map (λ w. w.now) c.args.words.now in
    let made = map (λ b. (goal.TaskBody-dyn g (b.vtable, b.value)).seen b.value) c.args.bodies.now.items in
    subst (λ (k : Command). IfOk c.usage_reply.result (IsReply made (OfCommand k (g.F.Files.contents c.args.files.now) made)))
    (sym (few_words words (omega (arith, length-map c.args.words.now (λ w. w.now), c.in-empty.len_below)))) (c.usage_reply.ensures.due made)

pub returns-in-len5-up-clause-due : goal.returns-in-len5-up-clause-due
returns-in-len5-up-clause-due g c =
    let words : List (List ℕ) = map (λ w. w.now) c.args.words.now in
    let made = map (λ b. (goal.TaskBody-dyn g (b.vtable, b.value)).seen b.value) c.args.bodies.now.items in
    subst (λ (k : Command). IfOk c.usage_reply-in-len5-up.result (IsReply made (OfCommand k (g.F.Files.contents c.args.files.now) made)))
    (sym (many_words words (omega (arith, length-map c.args.words.now (λ w. w.now), c.in-len5-up.len_at_least)))) (c.usage_reply-in-len5-up.ensures.due made)

pub returns-in-len2-clause-due : goal.returns-in-len2-clause-due
returns-in-len2-clause-due g c =
    let words = c.args.words.now in
    let told = g.F.Files.contents c.args.files.now in
    let made = map (λ b. (goal.TaskBody-dyn g (b.vtable, b.value)).seen b.value) c.args.bodies.now.items in
    let now = map (λ b. (goal.TaskBody-dyn g (b.vtable, b.value)).seen b.value) c.two_words.new.bodies.items in
    subst (λ (k : Command). IfOk c.two_words.result (IsReply now (OfCommand k told made)))
    (sym (two_are (λ (w : Bor (List ℕ)). w.now) words (record { ref_ptr = (0, 0); now = [] }) c.in-len2.len_at_least c.in-len2.len_below)) (c.two_words.ensures.due told)

pub returns-in-len3-clause-due : goal.returns-in-len3-clause-due
returns-in-len3-clause-due g c =
    let words = c.args.words.now in
    let told = g.F.Files.contents c.args.files.now in
    let made = map (λ b. (goal.TaskBody-dyn g (b.vtable, b.value)).seen b.value) c.args.bodies.now.items in
    subst (λ (k : Command). IfOk c.three_words.result (IsReply made (OfCommand k told made)))
    (sym (three_are (λ (w : Bor (List ℕ)). w.now) words (record { ref_ptr = (0, 0); now = [] }) c.in-len3.len_at_least c.in-len3.len_below)) (c.three_words.ensures.due made made)
