use Rattle.std.proofs.Common.{◌≡◌, suc, ◌-◌, None, length, get_or, arith, rules}
use Rattle.std.proofs.lemmas.List.{get_or_read}
use Rattle.constraint_set.proofs.Counts.{counted_pop}
use Rattle.constraint_set.proofs.loads.Loads.take_back.Goals as goal

pub invariant_of-self : goal.invariant_of-self
invariant_of-self c =
    let old = c.self.inside in
    let k = c.len-top.result - 1 in
    let round = c.index.result.now in
    let top : length old.named.items ≡ suc k = search rules in
    let is : round ≡ get_or old.named.items k None = get_or_read old.named.items k round (omega (arith, top)) c.index.ensures None in
    counted_pop old.counts.items c.take_one.new.counts.items old.named.items c.truncate.new.self.items k round c.self.invariant top is c.truncate.ensures.items c.take_one.ensures.same c.take_one.ensures.counts
