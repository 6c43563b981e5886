use Rattle.std.proofs.Common.{◌≡◌, ◌-◌, ◌<◌, ℕ, ℤ, List, All, length, drop, sym, ap, ◌∙◌, subst, arith}
use Rattle.std.specs.Vec.{with_items}
use Rattle.std.proofs.lemmas.List.{length-take-le, with_items_is}
use Rattle.std.proofs.lemmas.List.Elements.{All-take}
use Rattle.tick_num.specs.declared.differences.Diff.{Diff}
use Rattle.tick_num.specs.Differences.{InRange, listed}
use Rattle.diff_store.specs.Bounds.{Small}
use Rattle.diff_store.specs.Storing.{Storing}
use Rattle.diff_store.specs.Causes.{beside}
use Rattle.diff_store.specs.Chains.{Chained}
use Rattle.diff_store.specs.Trails.{SamePast}
use Rattle.diff_store.specs.Standing.{Answered}
use Rattle.diff_store.proofs.Stores.{popped}
use Rattle.diff_store.proofs.store.Store.pop.Goals as goal

pub invariant_of-self : goal.invariant_of-self
invariant_of-self c =
    let s = c.self.inside in
    let inv = c.self.invariant in
    let ds = s.list.items in
    let ds' = c.unlink.new.list.items in
    let n = s.variables in
    let t' = c.undo.new.self in
    let vs' = c.undo.new.values in
    let cs' = c.undo.new.causes in
    let cycle = drop s.start s.cycle.items in
    let list = c.unlink.ensures.list in
    let some : 0 < length ds = subst (λ (st : Storing). 0 < length st.list) (sym c.self.view_is) c.requires in
    let shorter : length ds' ≡ length ds - 1 = ap length list ∙ length-take-le (length ds - 1) ds (omega arith) in
    let starts : length t'.starts ≡ length ds' = (let a = c.undo.ensures.starts in let b = inv.starts in omega (arith, a, b, shorter)) in
    let values_fit : length vs' ≡ s.values.len = omega (arith, c.undo.auto.values, c.deref_mut.ensures.len) in
    let values_size : length vs' ≡ n = omega (arith, c.undo.auto.values, ap length c.deref_mut.ensures.value, inv.values) in
    let values_is = with_items_is s.values vs' values_fit in
    let causes_fit : length cs' ≡ s.causes.len = omega (arith, c.undo.auto.causes, c.deref_mut-2.ensures.len) in
    let causes_size : length cs' ≡ n = omega (arith, c.undo.auto.causes, ap length c.deref_mut-2.ensures.value, inv.causes) in
    let causes_is = with_items_is s.causes cs' causes_fit in
    let chained = subst (λ k. Chained k ds' c.unlink.new.links) (c.unlink.ensures.variables ∙ inv.chained.firsts_size) c.unlink.ensures.chained in
    let past = subst (λ (us : List ℕ). SamePast (length t'.starts) s.trail t' (listed s.values.items) (listed vs') (beside us) (beside cs')) c.deref_mut-2.ensures.value
    (subst (λ (us : List ℤ). SamePast (length t'.starts) s.trail t' (listed us) (listed vs') (beside c.deref_mut-2.result.now) (beside cs')) c.deref_mut.ensures.value c.undo.ensures.past) in
    record {
      few = inv.few;
      long = inv.long;
      fits = omega (arith, shorter, inv.fits);
      range = subst (InRange n) (sym list) (All-take (λ (d : Diff). (d.x < n) × (d.y < n)) (length ds - 1) ds inv.range);
      small = subst (λ (cs : List Diff). All Small cs) (sym list) (All-take Small (length ds - 1) ds inv.small);
      chained = chained;
      answered = subst (λ (vs : List ℤ). Answered ds' t' vs (with_items s.causes cs').items cycle) (sym values_is)
          (subst (λ (cs : List ℕ). Answered ds' t' vs' cs cycle) (sym causes_is)
          (popped ds ds' s.trail t' s.values.items vs' s.causes.items cs' cycle inv.answered some list shorter starts past));
      values = ap length values_is ∙ values_size;
      causes = ap length causes_is ∙ causes_size;
      chain = inv.chain;
      cycle = inv.cycle;
      start = inv.start;
      pushes = c.undo.ensures.pushes ∙ inv.pushes;
      starts = starts;
      kept = c.undo.ensures.size ∙ inv.kept;
      waits = inv.waits;
      none_waits = inv.none_waits;
      list_room = omega (arith, c.unlink.ensures.capacity, inv.list_room);
      newer_room = c.unlink.ensures.newer ∙ inv.newer_room;
      older_room = c.unlink.ensures.older ∙ inv.older_room;
    }
