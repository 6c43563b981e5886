use Rattle.std.proofs.Common.{◌≡◌, ℕ, Bool, true, false, not, List, Option, None, is_some, slice_index_or, sym, ap, subst, ◌∙◌, arith, rules, ℤ}
use Rattle.std.specs.List.{list_all}
use Rattle.std.specs.Option.{option_copied}
use Rattle.sched_model.specs.Numbers.{below}
use Rattle.node_core.proofs.RegisterLemmas.{copied_some, all_below_more, one_fails}
use Rattle.node_core.proofs.registers.InRow.is_full.Goals as goal

pub returns-then-is_none : goal.returns-then-is_none
returns-then-is_none c =
    let full = λ (k : ℕ). is_some (slice_index_or c.args.self.now k None) in
    sym (one_fails full c.args.count c.loop-place.place c.loop-place-test.true
    (ap (λ (o : Option (List ℤ)). is_some o) (sym c.get.ensures) ∙ copied_some c.get.result ∙ c.if-is_none.ensures))

pub loop-place-preserved : goal.loop-place-preserved
loop-place-preserved c =
    let full = λ (k : ℕ). is_some (slice_index_or c.args.self.now k None) in
    all_below_more full c.loop-place.place c.loop-place.invariant
    (ap (λ (o : Option (List ℤ)). is_some o) (sym c.get.ensures) ∙ copied_some c.get.result ∙ c.if-is_none.ensures)

pub returns : goal.returns
returns c =
    let at : c.loop-place.place ≡ c.args.count = omega (arith, c.loop-place.auto.place-end, c.loop-place-test.false) in
    sym (subst (λ (n : ℕ). list_all (λ k. is_some (slice_index_or c.args.self.now k None)) (below n) ≡ true) at c.loop-place.invariant)
