use Rattle.std.proofs.Common.{List, Option, ℤ, [], length, ap, ◌∙◌}
use Rattle.std.proofs.lemmas.List.{with_items_is, length-replicate}
use Rattle.node_core.specs.Registers.{InRow}
use Rattle.node_core.proofs.RegisterLemmas.{emptied_is, ins_are, length-no_outs, length-no_ins}
use Rattle.node_core.proofs.registers.Registers.empty.Goals as goal

pub returns : goal.returns
returns c =
    let rows = c.empty_rows.new.rows in
    let many_rows = ap (λ (xs : List InRow). length xs) c.deref_mut.ensures.value ∙ c.self.invariant.1 in
    let long_rows = ap (λ (xs : List InRow). length xs) c.empty_rows.ensures ∙ length-replicate {A = InRow} (length c.deref_mut.result.now) [] ∙ c.deref_mut.ensures.len in
    emptied_is _ _
    c.empty.ensures
    (with_items_is c.self.inside.ins rows long_rows ∙ ins_are rows (length c.deref_mut.result.now) c.empty_rows.ensures many_rows)

pub invariant_of-self : goal.invariant_of-self
invariant_of-self c =
    let rows = c.empty_rows.new.rows in
    let many_rows = ap (λ (xs : List InRow). length xs) c.deref_mut.ensures.value ∙ c.self.invariant.1 in
    let long_rows = ap (λ (xs : List InRow). length xs) c.empty_rows.ensures ∙ length-replicate {A = InRow} (length c.deref_mut.result.now) [] ∙ c.deref_mut.ensures.len in
    let all = with_items_is c.self.inside.ins rows long_rows ∙ ins_are rows (length c.deref_mut.result.now) c.empty_rows.ensures many_rows in (
      ap (λ (xs : List (Option ℤ)). length xs) c.empty.ensures ∙ length-no_outs,
      ap (λ (xs : List InRow). length xs) all ∙ length-no_ins,
    )
