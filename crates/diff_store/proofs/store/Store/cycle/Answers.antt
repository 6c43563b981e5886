use Rattle.std.proofs.Common.{◌-◌, ℕ, ℤ, length, take, drop, sym, ap, ◌∙◌, subst}
use Rattle.std.proofs.lemmas.List.{take_rest}
use Rattle.tick_num.specs.Differences.{MeetsAll, NegativeCycle}
use Rattle.diff_store.specs.Storing.{Storing}
use Rattle.diff_store.proofs.Stores.{now_cycle}
use Rattle.diff_store.proofs.store.Store.cycle.Goals as goal

pub returns-clause-cycle : goal.returns-clause-cycle
returns-clause-cycle c =
    let s = c.self.inside in
    let inv = c.self.invariant in
    let refs = c.deref.result.now in
    let cycle = now_cycle s.list.items s.trail s.values.items s.causes.items (drop s.start s.cycle.items) inv.answered inv.starts (subst (λ (st : Storing). (v : ℕ → ℤ) → MeetsAll v st.list → ⊥) (sym c.self.view_is) c.requires) in
    subst (λ (st : Storing). NegativeCycle st.list (take (length refs - s.start) (drop s.start refs))) c.self.view_is
    (subst (NegativeCycle s.list.items) (sym (take_rest refs s.start ∙ ap (drop s.start) c.deref.ensures.value)) cycle)
