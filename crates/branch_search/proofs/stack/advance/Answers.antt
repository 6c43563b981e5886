use Rattle.std.proofs.Common.{◌≡◌, rules, length, ◌<◌, ◌-◌, SFits, w64, to_z, of_z, ℤ, true, false, sym, ◌∙◌, pos, ◌+ℤ◌, arith, slice_set, subst}
use Rattle.std.specs.Prelude.{int_lt}
use Rattle.std.proofs.lemmas.Int.{ints, to_z-of_z}
use Rattle.std.proofs.lemmas.List.{get_or_default}
use Rattle.branch_search.specs.Stacks.{at_, next_due, Due}
use Rattle.branch_search.proofs.Popping.{popped_due, popped_down}
use Rattle.branch_search.proofs.stack.advance.Goals as goal

pub returns-then-last-most-clause-next : goal.returns-then-last-most-clause-next
returns-then-last-most-clause-next c =
    let chosen = c.loop-chosen.chosen.items in
    let greatest = c.loop-chosen.greatest.items in
    let same = c.loop-chosen.invariant.same in
    let last = c.index-last.result.now in
    let most = c.index-most.result.now in
    let last_fits : SFits w64 last = search rules in
    let most_fits : SFits w64 most = search rules in
    let test : int_lt last most ≡ true = simp to_z-of_z at c.if-last-most.true in
    let top : c.len-top.result - 1 ≡ length chosen - 1 = search rules in
    let some : 0 < length chosen = search rules in
    let is_last : last ≡ at_ chosen (c.len-top.result - 1) = c.index-last.ensures ∙ get_or_default chosen (c.len-top.result - 1) last (pos 0) (omega (arith, top, some)) in
    let is_most : most ≡ at_ greatest (c.len-top.result - 1) = c.index-most.ensures ∙ get_or_default greatest (c.len-top.result - 1) most (pos 0) (omega (arith, top, some, same)) in
    let value : to_z w64 (of_z w64 (to_z w64 (of_z w64 last) +ℤ pos 1)) ≡ last +ℤ pos 1 = grind (arith, ints, last_fits, most_fits, test) in
    subst (λ (z : ℤ). next_due (length c.args.chosen.now.items) c.args.chosen.now.items c.args.greatest.now.items ≡ Due (slice_set chosen (c.len-top.result - 1) z) greatest) (sym value)
    (popped_due _ _ chosen greatest (c.len-top.result - 1) last most c.loop-chosen.invariant top some is_last is_most (sym test))

pub loop-chosen-preserved : goal.loop-chosen-preserved
loop-chosen-preserved c =
    let chosen = c.loop-chosen.chosen.items in
    let greatest = c.loop-chosen.greatest.items in
    let same = c.loop-chosen.invariant.same in
    let last = c.index-last.result.now in
    let most = c.index-most.result.now in
    let last_fits : SFits w64 last = search rules in
    let most_fits : SFits w64 most = search rules in
    let test : int_lt last most ≡ false = simp to_z-of_z at c.if-last-most.false in
    let top : c.len-top.result - 1 ≡ length chosen - 1 = search rules in
    let some : 0 < length chosen = search rules in
    let is_last : last ≡ at_ chosen (c.len-top.result - 1) = c.index-last.ensures ∙ get_or_default chosen (c.len-top.result - 1) last (pos 0) (omega (arith, top, some)) in
    let is_most : most ≡ at_ greatest (c.len-top.result - 1) = c.index-most.ensures ∙ get_or_default greatest (c.len-top.result - 1) most (pos 0) (omega (arith, top, some, same)) in
    popped_down _ _ chosen greatest _ _ (c.len-top.result - 1) last most c.loop-chosen.invariant top some is_last is_most (sym test) c.truncate.ensures.items c.truncate-in-loop-chosen.ensures.items
