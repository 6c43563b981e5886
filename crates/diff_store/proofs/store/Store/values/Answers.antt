use Rattle.std.proofs.Common.{ℕ, ℤ, List, drop, sym, subst}
use Rattle.tick_num.specs.Differences.{MeetsAll, LeastValues, listed}
use Rattle.diff_store.specs.Storing.{Storing}
use Rattle.diff_store.proofs.Stores.{now_least, least_values}
use Rattle.diff_store.proofs.store.Store.values.Goals as goal

pub returns-clause-least : goal.returns-clause-least
returns-clause-least c =
    let s = c.self.inside in
    let inv = c.self.invariant in
    let least = now_least s.list.items s.trail s.values.items s.causes.items (drop s.start s.cycle.items) inv.answered inv.starts (subst (λ (st : Storing). (v : ℕ → ℤ) × MeetsAll v st.list) (sym c.self.view_is) c.requires) in
    subst (λ (st : Storing). LeastValues st.list (listed c.deref.result.now)) c.self.view_is
    (subst (λ (vs : List ℤ). LeastValues s.list.items (listed vs)) (sym c.deref.ensures.value) (least_values s.list.items (listed s.values.items) least))
