use Rattle.std.proofs.Common.{◌≡◌, replicate, rules}
use Rattle.diff_store.proofs.Turns.{zero_counted}
use Rattle.diff_store.proofs.turn_marks.Marks.reserve.Goals as goal

pub returns : goal.returns
returns c =
    let zeros : c.in_ok-vec.field-0.items ≡ replicate c.args.n 0 = search rules in
    zero_counted c.args.n c.in_ok-vec.field-0.items zeros
