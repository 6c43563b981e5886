use Rattle.std.proofs.Common.{◌∙◌, ap, set, true, List, Bool}
use Rattle.diff_store.proofs.Turns.{counted_more}
use Rattle.diff_store.proofs.turn_marks.Marks.mark.Goals as goal

pub returns : goal.returns
returns c =
    let s = c.self.inside in
    counted_more s.turn s.turns.items c.args.variable ∙ ap (λ (bs : List Bool). set bs c.args.variable true) c.self.view_is
