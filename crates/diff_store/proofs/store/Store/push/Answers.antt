use Rattle.std.proofs.Common.{◌≡◌, ◌<◌, ℕ, ℤ, List, length, drop, refl, sym, ap, ◌∙◌, subst, arith, inl, inr}
use Rattle.std.specs.Vec.{with_items}
use Rattle.std.proofs.lemmas.List.{length_push, with_items_is}
use Rattle.tick_num.specs.declared.differences.Diff.{Diff}
use Rattle.tick_num.specs.Differences.{MeetsAll, InRange, NegativeCycle, listed}
use Rattle.tick_num.proofs.Cycles.{cycles_exclude}
use Rattle.diff_store.specs.Storing.{Storing}
use Rattle.diff_store.specs.Leasts.{LeastOfFirst}
use Rattle.diff_store.specs.Causes.{beside, HeldByFirst}
use Rattle.diff_store.specs.Chains.{Chained}
use Rattle.diff_store.specs.Trails.{SamePast}
use Rattle.diff_store.specs.Standing.{Answered}
use Rattle.diff_store.proofs.Stores.{now_solved, now_least, now_held, solved_now, least_of_older, held_of_older, pushed_range, pushed_small, pushed_answered, meets_all}
use Rattle.diff_store.proofs.store.Store.push.Goals as goal

pub answer-closing-requires-clause-range : goal.answer-closing-requires-clause-range
answer-closing-requires-clause-range c =
    let s = c.self.inside in
    let inv = c.self.invariant in
    let passed : length c.deref_mut.result.now ≡ s.variables = ap length c.deref_mut.ensures.value ∙ inv.values in
    subst (λ n. InRange n c.deref.result.now) (sym passed)
    (pushed_range s.variables s.list.items c.deref.result.now c.args.d (c.deref.ensures.value ∙ c.link.ensures.list) inv.range
    (subst (λ (st : Storing). c.args.d.x < st.variables) (sym c.self.view_is) c.requires.x)
    (subst (λ (st : Storing). c.args.d.y < st.variables) (sym c.self.view_is) c.requires.y))

pub answer-closing-requires-clause-small : goal.answer-closing-requires-clause-small
answer-closing-requires-clause-small c = pushed_small c.self.inside.list.items c.deref.result.now c.args.d (c.deref.ensures.value ∙ c.link.ensures.list) c.self.invariant.small c.requires.small

pub answer-closing-requires-clause-least : goal.answer-closing-requires-clause-least
answer-closing-requires-clause-least c =
    let s = c.self.inside in
    let inv = c.self.invariant in
    let least = now_least s.list.items s.trail s.values.items s.causes.items (drop s.start s.cycle.items) inv.answered inv.starts (subst (λ (st : Storing). (v : ℕ → ℤ) × MeetsAll v st.list) (sym c.self.view_is) c.requires.solvable) in
    least_of_older s.list.items c.deref.result.now c.args.d (c.deref.ensures.value ∙ c.link.ensures.list) s.values.items c.deref_mut.result.now c.deref_mut.ensures.value least

pub answer-closing-requires-clause-held : goal.answer-closing-requires-clause-held
answer-closing-requires-clause-held c =
    let s = c.self.inside in
    let inv = c.self.invariant in
    let held = now_held s.list.items s.trail s.values.items s.causes.items (drop s.start s.cycle.items) inv.answered inv.starts (subst (λ (st : Storing). (v : ℕ → ℤ) × MeetsAll v st.list) (sym c.self.view_is) c.requires.solvable) in
    held_of_older s.list.items c.deref.result.now c.args.d (c.deref.ensures.value ∙ c.link.ensures.list) s.values.items c.deref_mut.result.now s.causes.items c.deref_mut-2.result.now c.deref_mut.ensures.value c.deref_mut-2.ensures.value held

pub invariant_of-self : goal.invariant_of-self
invariant_of-self c =
    let s = c.self.inside in
    let inv = c.self.invariant in
    let ds = s.list.items in
    let ds' = c.link.new.list.items in
    let n = s.variables in
    let t' = c.answer-closing.new.trail in
    let vs' = c.answer-closing.new.values in
    let cs' = c.answer-closing.new.causes in
    let list = c.link.ensures.list in
    let size = ap length list ∙ length_push ds c.args.d in
    let room : length ds < s.constraints = subst (λ (st : Storing). length st.list < st.constraints) (sym c.self.view_is) c.requires.room in
    let chained = subst (λ k. Chained k ds' c.link.new.links) (c.link.ensures.variables ∙ inv.chained.firsts_size) c.link.ensures.chained in
    let values_fit : length vs' ≡ s.values.len = omega (arith, c.answer-closing.auto.values, c.deref_mut.ensures.len) in
    let values_size : length vs' ≡ n = omega (arith, c.answer-closing.auto.values, ap length c.deref_mut.ensures.value, inv.values) in
    let values_is = with_items_is s.values vs' values_fit in
    let causes_fit : length cs' ≡ s.causes.len = omega (arith, c.answer-closing.auto.causes, c.deref_mut-2.ensures.len) in
    let causes_size : length cs' ≡ n = omega (arith, c.answer-closing.auto.causes, ap length c.deref_mut-2.ensures.value, inv.causes) in
    let causes_is = with_items_is s.causes cs' causes_fit in
    let starts : length t'.starts ≡ length ds' = c.answer-closing.ensures.starts ∙ ap length c.deref.ensures.value in
    let past = subst (λ (us : List ℕ). SamePast (length s.trail.starts) s.trail t' (listed s.values.items) (listed vs') (beside us) (beside cs')) c.deref_mut-2.ensures.value
    (subst (λ (us : List ℤ). SamePast (length s.trail.starts) s.trail t' (listed us) (listed vs') (beside c.deref_mut-2.result.now) (beside cs')) c.deref_mut.ensures.value c.answer-closing.ensures.past) in
    let cycle = drop s.start s.cycle.items in
    let solved = now_solved ds s.trail s.values.items s.causes.items cycle inv.answered (subst (λ (st : Storing). (v : ℕ → ℤ) × MeetsAll v st.list) (sym c.self.view_is) c.requires.solvable) in
    let least = subst (λ (es : List Diff). LeastOfFirst (length es) es (listed vs')) c.deref.ensures.value c.in_default.ensures.least in
    let held = subst (λ (es : List Diff). HeldByFirst (length es) es (listed vs') (beside cs')) c.deref.ensures.value c.in_default.ensures.held in
    record {
      few = inv.few;
      long = inv.long;
      fits = omega (arith, size, room);
      range = pushed_range n ds ds' c.args.d list inv.range
          (subst (λ (st : Storing). c.args.d.x < st.variables) (sym c.self.view_is) c.requires.x)
          (subst (λ (st : Storing). c.args.d.y < st.variables) (sym c.self.view_is) c.requires.y);
      small = pushed_small ds ds' c.args.d list inv.small c.requires.small;
      chained = chained;
      answered = subst (λ (vs : List ℤ). Answered ds' t' vs (with_items s.causes cs').items cycle) (sym values_is)
          (subst (λ (cs : List ℕ). Answered ds' t' vs' cs cycle) (sym causes_is)
          (pushed_answered ds ds' c.args.d list s.trail t' s.values.items vs' s.causes.items cs' cycle cycle inv.answered solved inv.starts past (inl (solved_now ds' t' (listed vs') (beside cs') starts least held))));
      values = ap length values_is ∙ values_size;
      causes = ap length causes_is ∙ causes_size;
      chain = c.answer-closing.ensures.chain ∙ inv.chain;
      pushes = c.answer-closing.ensures.pushes ∙ inv.pushes;
      starts = starts;
      kept = c.answer-closing.ensures.size ∙ inv.kept;
      list_room = omega (arith, c.link.ensures.capacity, inv.list_room);
      newer_room = c.link.ensures.newer ∙ inv.newer_room;
      older_room = c.link.ensures.older ∙ inv.older_room;
      cycle = inv.cycle;
      start = inv.start;
      waits = omega (arith, c.answer-closing.ensures.waits, inv.waits);
      none_waits = c.in_default.ensures.none;
    }

pub returns-in_default-clause-solvable : goal.returns-in_default-clause-solvable
returns-in_default-clause-solvable c =
    let v = listed c.answer-closing.new.values in (
      λ _. (v, subst (MeetsAll v) c.deref.ensures.value (meets_all c.deref.result.now v c.in_default.ensures.least.solves)),
      λ _. refl,
    )

pub returns-in_default-clause-closed : goal.returns-in_default-clause-closed
returns-in_default-clause-closed c =
    let v = listed c.answer-closing.new.values in (
      λ e. cc,
      λ none. absurd (none v (subst (MeetsAll v) c.deref.ensures.value (meets_all c.deref.result.now v c.in_default.ensures.least.solves))),
    )

pub close-self-inside-requires-clause-range : goal.close-self-inside-requires-clause-range
close-self-inside-requires-clause-range c =
    let s = c.self.inside in
    let inv = c.self.invariant in
    let causes_fit : length c.answer-closing.new.causes ≡ s.causes.len = omega (arith, c.answer-closing.auto.causes, c.deref_mut-2.ensures.len) in
    let causes_size : length c.answer-closing.new.causes ≡ s.variables = omega (arith, c.answer-closing.auto.causes, ap length c.deref_mut-2.ensures.value, inv.causes) in
    let passed : length c.deref-3.result.now ≡ s.variables = ap length (c.deref-3.ensures.value ∙ with_items_is s.causes c.answer-closing.new.causes causes_fit) ∙ causes_size in
    subst (λ n. InRange n c.deref-2.result.now) (sym passed)
    (pushed_range s.variables s.list.items c.deref-2.result.now c.args.d (c.deref-2.ensures.value ∙ c.link.ensures.list) inv.range
    (subst (λ (st : Storing). c.args.d.x < st.variables) (sym c.self.view_is) c.requires.x)
    (subst (λ (st : Storing). c.args.d.y < st.variables) (sym c.self.view_is) c.requires.y))

pub invariant_of-self-2 : goal.invariant_of-self-2
invariant_of-self-2 c =
    let s = c.self.inside in
    let inv = c.self.invariant in
    let ds = s.list.items in
    let ds' = c.link.new.list.items in
    let n = s.variables in
    let t' = c.answer-closing.new.trail in
    let vs' = c.answer-closing.new.values in
    let cs' = c.answer-closing.new.causes in
    let list = c.link.ensures.list in
    let size = ap length list ∙ length_push ds c.args.d in
    let room : length ds < s.constraints = subst (λ (st : Storing). length st.list < st.constraints) (sym c.self.view_is) c.requires.room in
    let chained = subst (λ k. Chained k ds' c.link.new.links) (c.link.ensures.variables ∙ inv.chained.firsts_size) c.link.ensures.chained in
    let values_fit : length vs' ≡ s.values.len = omega (arith, c.answer-closing.auto.values, c.deref_mut.ensures.len) in
    let values_size : length vs' ≡ n = omega (arith, c.answer-closing.auto.values, ap length c.deref_mut.ensures.value, inv.values) in
    let values_is = with_items_is s.values vs' values_fit in
    let causes_fit : length cs' ≡ s.causes.len = omega (arith, c.answer-closing.auto.causes, c.deref_mut-2.ensures.len) in
    let causes_size : length cs' ≡ n = omega (arith, c.answer-closing.auto.causes, ap length c.deref_mut-2.ensures.value, inv.causes) in
    let causes_is = with_items_is s.causes cs' causes_fit in
    let starts : length t'.starts ≡ length ds' = c.answer-closing.ensures.starts ∙ ap length c.deref.ensures.value in
    let past = subst (λ (us : List ℕ). SamePast (length s.trail.starts) s.trail t' (listed s.values.items) (listed vs') (beside us) (beside cs')) c.deref_mut-2.ensures.value
    (subst (λ (us : List ℤ). SamePast (length s.trail.starts) s.trail t' (listed us) (listed vs') (beside c.deref_mut-2.result.now) (beside cs')) c.deref_mut.ensures.value c.answer-closing.ensures.past) in
    let cycle = drop s.start s.cycle.items in
    let solved = now_solved ds s.trail s.values.items s.causes.items cycle inv.answered (subst (λ (st : Storing). (v : ℕ → ℤ) × MeetsAll v st.list) (sym c.self.view_is) c.requires.solvable) in
    let from = c.close-self-inside.result in
    let cycle_fits : length c.close-self-inside.new.cycle ≡ s.cycle.len = omega (arith, c.close-self-inside.auto.cycle, c.deref_mut-3.ensures.len) in
    let cycle_size : length c.close-self-inside.new.cycle ≡ n = omega (arith, c.close-self-inside.auto.cycle, ap length c.deref_mut-3.ensures.value, inv.cycle) in
    let cycle_is = with_items_is s.cycle c.close-self-inside.new.cycle cycle_fits in
    let negative = subst (λ (refs : List ℕ). NegativeCycle ds' (drop from refs)) (sym cycle_is) (subst (λ (es : List Diff). NegativeCycle es (drop from c.close-self-inside.new.cycle)) c.deref-2.ensures.value c.close-self-inside.ensures.cycle) in
    record {
      few = inv.few;
      long = inv.long;
      fits = omega (arith, size, room);
      range = pushed_range n ds ds' c.args.d list inv.range
          (subst (λ (st : Storing). c.args.d.x < st.variables) (sym c.self.view_is) c.requires.x)
          (subst (λ (st : Storing). c.args.d.y < st.variables) (sym c.self.view_is) c.requires.y);
      small = pushed_small ds ds' c.args.d list inv.small c.requires.small;
      chained = chained;
      answered = subst (λ (vs : List ℤ). Answered ds' t' vs (with_items s.causes cs').items (drop from (with_items s.cycle c.close-self-inside.new.cycle).items)) (sym values_is)
          (subst (λ (cs : List ℕ). Answered ds' t' vs' cs (drop from (with_items s.cycle c.close-self-inside.new.cycle).items)) (sym causes_is)
          (pushed_answered ds ds' c.args.d list s.trail t' s.values.items vs' s.causes.items cs' cycle (drop from (with_items s.cycle c.close-self-inside.new.cycle).items) inv.answered solved inv.starts past (inr negative)));
      values = ap length values_is ∙ values_size;
      causes = ap length causes_is ∙ causes_size;
      chain = c.answer-closing.ensures.chain ∙ inv.chain;
      pushes = c.answer-closing.ensures.pushes ∙ inv.pushes;
      starts = starts;
      kept = c.answer-closing.ensures.size ∙ inv.kept;
      list_room = omega (arith, c.link.ensures.capacity, inv.list_room);
      newer_room = c.link.ensures.newer ∙ inv.newer_room;
      older_room = c.link.ensures.older ∙ inv.older_room;
      cycle = ap length cycle_is ∙ cycle_size;
      start = omega (arith, c.close-self-inside.ensures.start, cycle_size);
      waits = omega (arith, c.clear.ensures.size, c.answer-closing.ensures.waits, inv.waits);
      none_waits = c.clear.ensures.none;
    }

pub returns-clause-solvable : goal.returns-clause-solvable
returns-clause-solvable c =
    let cycle = subst (λ (ds : List Diff). NegativeCycle ds (drop c.close-self-inside.result c.close-self-inside.new.cycle)) c.deref-2.ensures.value c.close-self-inside.ensures.cycle in (
      λ e. cc,
      λ some. absurd (cycles_exclude c.link.new.list.items _ cycle some.0 some.1),
    )

pub returns-clause-closed : goal.returns-clause-closed
returns-clause-closed c =
    let cycle = subst (λ (ds : List Diff). NegativeCycle ds (drop c.close-self-inside.result c.close-self-inside.new.cycle)) c.deref-2.ensures.value c.close-self-inside.ensures.cycle in (
      λ _ v m. cycles_exclude c.link.new.list.items _ cycle v m,
      λ _. refl,
    )
