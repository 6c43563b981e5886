use Rattle.std.proofs.Common.{◌≡◌, ◌<◌, ℕ, ℤ, pos, w64, to_z, of_z, drop, sym, ◌∙◌, subst, arith}
use Rattle.std.proofs.lemmas.List.{get_or_default}
use Rattle.tick_num.specs.Differences.{MeetsAll, LeastValues}
use Rattle.diff_store.specs.Storing.{Storing}
use Rattle.diff_store.proofs.Stores.{now_least, least_at, least_is}
use Rattle.diff_store.proofs.store.Store.least.Goals as goal

pub returns-clause-least : goal.returns-clause-least
returns-clause-least c =
    let s = c.self.inside in
    let inv = c.self.invariant in
    let low : c.args.var < s.variables = subst (λ (st : Storing). c.args.var < st.variables) (sym c.self.view_is) c.requires.var in
    let least = now_least s.list.items s.trail s.values.items s.causes.items (drop s.start s.cycle.items) inv.answered inv.starts (subst (λ (st : Storing). (v : ℕ → ℤ) × MeetsAll v st.list) (sym c.self.view_is) c.requires.solvable) in
    subst (λ (st : Storing). (v : ℕ → ℤ) × LeastValues st.list v × (to_z w64 (of_z w64 c.index.result.now) ≡ v c.args.var)) c.self.view_is
    (least_at s.variables s.list.items s.values.items inv.few inv.range inv.small least
    c.args.var c.index.result.now (c.index.ensures ∙ get_or_default s.values.items c.args.var c.index.result.now (pos 0) (omega (arith, low, inv.values))))

pub returns-clause-one : goal.returns-clause-one
returns-clause-one c v is_least =
    let s = c.self.inside in
    let inv = c.self.invariant in
    let low : c.args.var < s.variables = subst (λ (st : Storing). c.args.var < st.variables) (sym c.self.view_is) c.requires.var in
    let least = now_least s.list.items s.trail s.values.items s.causes.items (drop s.start s.cycle.items) inv.answered inv.starts (subst (λ (st : Storing). (v : ℕ → ℤ) × MeetsAll v st.list) (sym c.self.view_is) c.requires.solvable) in
    least_is s.variables s.list.items s.values.items inv.few inv.range inv.small least
    c.args.var c.index.result.now (c.index.ensures ∙ get_or_default s.values.items c.args.var c.index.result.now (pos 0) (omega (arith, low, inv.values)))
    v (subst (λ (st : Storing). LeastValues st.list v) (sym c.self.view_is) is_least)
