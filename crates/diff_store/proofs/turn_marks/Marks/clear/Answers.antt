use Rattle.std.proofs.Common.{◌≡◌, ◌∙◌, ap, false, length, replicate, List, Bool, nat_eq, sym, rules, vec_len}
use Rattle.std.proofs.lemmas.List.{length-map}
use Rattle.diff_store.proofs.Turns.{turned, zero_counted}
use Rattle.diff_store.proofs.turn_marks.Marks.clear.Goals as goal

pub returns-then-self : goal.returns-then-self
returns-then-self c =
    let s = c.self.inside in
    let size : vec_len s.turns ≡ length s.turns.items = search rules in
    zero_counted (vec_len s.turns) c.fill.new.self.items (c.fill.ensures.items (λ y e. e))
    ∙ ap (λ n. replicate n false) (size ∙ sym (length-map s.turns.items (λ t. nat_eq t s.turn)) ∙ ap (λ (bs : List Bool). length bs) c.self.view_is)

pub returns : goal.returns
returns c =
    let s = c.self.inside in
    turned s.turn s.turns.items c.self.invariant.1 ∙ ap (λ (bs : List Bool). replicate (length bs) false) c.self.view_is
