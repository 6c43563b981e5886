use Rattle.std.proofs.Common.{List, Option, ℤ, length, ap, arith, sym, ◌∙◌}
use Rattle.std.proofs.lemmas.List.{with_items_is}
use Rattle.node_core.proofs.RegisterLemmas.{first_emptied, length-no_outs, no_outs_is}
use Rattle.node_core.proofs.registers.OutList.empty.Goals as goal

pub returns : goal.returns
returns c =
    let outs = c.empty_outs.new.outs in
    let is = first_emptied outs c.deref_mut.result.now c.self.inside.slots.items c.self.inside.used c.empty_outs.ensures c.deref_mut.ensures.value c.self.invariant.2 c.self.invariant.1 in
    let many = ap (λ (xs : List (Option ℤ)). length xs) c.deref_mut.ensures.value ∙ c.self.invariant.0 in
    let long = ap (λ (xs : List (Option ℤ)). length xs) is ∙ length-no_outs ∙ sym many ∙ c.deref_mut.ensures.len in
    with_items_is c.self.inside.slots outs long ∙ is

pub invariant_of-self : goal.invariant_of-self
invariant_of-self c =
    let outs = c.empty_outs.new.outs in
    let is = first_emptied outs c.deref_mut.result.now c.self.inside.slots.items c.self.inside.used c.empty_outs.ensures c.deref_mut.ensures.value c.self.invariant.2 c.self.invariant.1 in
    let many = ap (λ (xs : List (Option ℤ)). length xs) c.deref_mut.ensures.value ∙ c.self.invariant.0 in
    let long = ap (λ (xs : List (Option ℤ)). length xs) is ∙ length-no_outs ∙ sym many ∙ c.deref_mut.ensures.len in
    let all = with_items_is c.self.inside.slots outs long ∙ is in
    (ap (λ (xs : List (Option ℤ)). length xs) all ∙ length-no_outs, omega arith, all ∙ no_outs_is)
