-- At a slot of window k an in register that is full was filled in window k, and before its first copy none was
use Rattle.std.proofs.Common.{◌≡◌, ℕ, ◌+◌, ◌*◌, ◌<◌, ◌≤◌, true, List, ◌∷◌, length, Contains, refl, sym, ◌∙◌, ap, subst, arith, ◌⊎◌, inl, inr, ⊎_elim, ℤ, pos, ◌+ℤ◌, ◌-ℤ◌, ◌*ℤ◌, ◌≤ℤ◌}
use Rattle.std.specs.Prelude.{Option, Some, None}
use Rattle.std.proofs.lemmas.Int.{ints}
use Rattle.std.proofs.lemmas.Bool.{cases_lt}
use borrow.Author.Differences.{same_in}
use Rattle.tick_num.proofs.Floor.{sum-times}
use Rattle.sched_model.specs.PlainMode.{message_at}
use Rattle.sched_model.specs.Rounds.{round_start, opens, closes}
use Rattle.runtime_model.specs.Entries.{Entry, Action, slot, task_starts}
use Rattle.runtime_model.specs.Timeline.{drains}
use Rattle.runtime_model.specs.Plans.{Plan, RightPlan, Carried, node_of}
use Rattle.runtime_model.specs.Placement.{release, placed, own_slot, window_at}
use Rattle.runtime_model.specs.Copies.{copy_at}
use Rattle.runtime_model.specs.Outcomes.{PlainEvent, advance, took}
use Rattle.runtime_model.specs.LookingBack.{recall}
use Rattle.runtime_model.specs.Registers.{last_in, flat, values_of}
use Rattle.runtime_model.specs.System.{System, plan_at}
use Rattle.runtime_model.specs.History.{history, spot_next, entries, entry_at}
use Rattle.runtime_model.specs.Laws.{InputsHoldAtSlots, FirstCopiesAreFirst}
use Rattle.runtime_model.proofs.Cycles.{entry_right, RightAt}
use Rattle.runtime_model.proofs.Once.{slot_once}
use Rattle.runtime_model.proofs.Spots.{moves, stands}
use Rattle.runtime_model.proofs.Registers.{recall_stay}
use Rattle.runtime_model.proofs.Times.{natural_is, offset_is, slot_window, slot_carried, narrow, round_from_zero, window_is}
use Rattle.runtime_model.proofs.OutRegisters.{Is, H, P, step_back, step_on, same_mode, released_back, time_order, time_before, turns_apart, index_fits, start_place}
use Rattle.runtime_model.proofs.InRegisters.{calm, consumer, fit, some, no_start_before, filled_was, took_was, none_since_start, none_took, in_took, none_all, some_all}
use Rattle.runtime_model.proofs.CopyNumbers.{near, counts, so_counts, own_counts, copy_is, one_counts, two_count}

nothing : {X : Type 0} (o : Option X) → ((x : X) → o ≡ Some x → ⊥) → o ≡ None
nothing None f = refl
nothing (Some x) f = absurd (f x refl)

-- a place before one that stands before another
before_both : (a n m i j g : ℕ) → (a < n) ⊎ (a ≡ n) × (i < j) → (n < m) ⊎ (n ≡ m) × (j < g) → (a < m) ⊎ (a ≡ m) × (i < g)
before_both a n m i j g (inl x) (inl z) = inl (omega (arith, x, z))
before_both a n m i j g (inl x) (inr z) = inl (omega (arith, x, z.0))
before_both a n m i j g (inr x) (inl z) = inl (omega (arith, x.0, z))
before_both a n m i j g (inr x) (inr z) = inr (x.0 ∙ z.0, omega (arith, x.1, z.1))

-- ---- at a placed slot
module _ (y : System) (es : List PlainEvent) (j i : ℕ) (ok : RightPlan y.nodes (plan_at y (spot_next y (history y es)).hyper.mode)) (c : Carried (plan_at y (spot_next y (history y es)).hyper.mode) j i)
    (here : (entry_at y (spot_next y (history y es))).action ≡ slot j i) (pl : placed (spot_next y (history y es)).hyper.opening (spot_next y (history y es)).hyper.phase (own_slot (plan_at y (spot_next y (history y es)).hyper.mode) j i) ≡ true) where
  abbrev ds : List Rattle.runtime_model.specs.Outcomes.Step
  ds = history y es

  abbrev s : Rattle.runtime_model.specs.Outcomes.Spot
  s = spot_next y ds

  abbrev md : ℕ
  md = s.hyper.mode

  abbrev p : Plan
  p = plan_at y md

  abbrev per : ℕ
  per = (message_at p.mode i).period

  abbrev k : ℕ
  k = window_at p s.turn j i

  abbrev u : ℕ
  u = (entry_at y s).tick

  -- the slot's window, by the tick of its entry
  record Here : Type 0 where
    is : Is y md s.index u (slot j i)
    at : pos u ≡ round_start p.schedule j
    after : (opens p.schedule i +ℤ pos (k * per)) ≤ℤ pos (s.turn * H y md + u)
    before : (pos (s.turn * H y md + u) +ℤ pos p.mode.round) ≤ℤ (closes p.schedule i +ℤ pos (k * per))
    released : drains s.hyper.phase ≡ true → k * per < s.turn * H y md
    whole : (pos (s.turn * H y md) +ℤ release p j i) ≡ pos (k * per)

  slot_here : Here
  slot_here =
      let now = stands y (advance 0 ∷ es) in
      let b = ok.valid.consumer i c.1 in
      let l = index_fits y md b.0 (fit y md b.0 i ok c.1 b.1) (some y md b.0 i ok c.1 b.1) ds s (moves y ds (stands y es)) refl in
      let r = subst (λ (w : Action). RightAt p u w) here (entry_right y.nodes p s.index l).1 in
      let w = slot_window y.nodes p ok s.turn j i s.hyper.opening s.hyper.phase c now.turn (calm s.hyper.opening (drains s.hyper.phase) now.opening) pl in
      let at : pos u ≡ round_start p.schedule j = sym (ap (λ (z : ℕ). pos z) r.1) ∙ natural_is (round_start p.schedule j) (round_from_zero y.nodes p ok j c.0) in
      record {
        is = (l, ap (λ (w : Action). record { tick = u; action = w }) here);
        at = at;
        after = omega (arith, ints, w.after, at);
        before = omega (arith, ints, w.before, at);
        released = w.released;
        whole = (window_is y.nodes p ok s.turn k j i c w.after w.before).0;
      }

  -- ---- what filled an in register
  module _ (b : ℕ) (to : Contains (message_at p.mode i).to b) where
    abbrev v : ℕ
    v = node_of p b

    -- every start of the consumer is outside of the window
    full_is_here : (l : ℕ) (xs : List ℤ) → recall v s.stay (last_in v b i) ds ≡ Some (Some (l, xs)) → l ≡ k
    full_is_here l xs e =
        let h = slot_here in
        let mv = moves y ds (stands y es) in
        let same = sym (recall_stay v s.stay (last_in v b i) ds (Some (l, xs)) e) in
        let mode_ds = same_mode y ds s mv same in
        let m = ok.right.s4 i c.1 in
        let o = offset_is y.nodes p ok b (consumer y md b i ok c.1 to) in
        let app = (ok.valid.consumer_app i b c.1 to).0 in
        let times = ap (λ z. k * z) app in
        ⊎_elim
        (λ (early : l < k).
        let w = start_place y md b (fit y md b i ok c.1 to) l in
        let gap = turns_apart (P p b) l k early in
        let first = time_order y md w.0 w.1 w.2 s.turn s.index u (task_starts b) (slot j i) w.3 h.is (omega (arith, ints, w.4, m.next b to, o, gap, app, times, h.after)) in
        absurd (no_start_before y md b i ok c.1 to es s.stay w.0 w.1 w.2 l xs mode_ds e w.3 w.4 (step_back y ds s w.0 w.1 mv same (subst (λ (z : ℕ). w.1 < length (entries y z)) (sym mode_ds) w.3.0) first)
        (released_back y p ds s (l * P p b) mv same (λ d. omega (arith, h.released d, gap, times)))))
        (λ (late : k ≤ l).
        let f = filled_was y md b i ok c.1 to es s.stay v l xs mode_ds e in
        let past = time_before y md f.0 f.1 f.2.tick s.turn s.index u (slot f.2.round i) (slot j i) f.2.is h.is (step_on y ds s f.0 f.1 mv same f.3) in
        ⊎_elim
        (λ (more : k < l). absurd (omega (arith, ints, past, f.2.after, h.before, narrow y.nodes p ok i c.1, turns_apart (P p b) k l more, app, times, ok.valid.round)))
        (λ (le : l ≤ k). omega (arith, late, le))
        (cases_lt k l))
        (cases_lt l k)

    none_if_emptied : recall v s.stay (last_in v b i) ds ≡ Some None → (xs : List ℤ) → recall v s.stay (took v i k) ds ≡ Some xs → ⊥
    none_if_emptied e xs f =
        let h = slot_here in
        let mv = moves y ds (stands y es) in
        let same = sym (recall_stay v s.stay (last_in v b i) ds None e) in
        let m = ok.right.s4 i c.1 in
        let o = offset_is y.nodes p ok b (consumer y md b i ok c.1 to) in
        let times = ap (λ z. k * z) (ok.valid.consumer_app i b c.1 to).0 in
        let w = start_place y md b (fit y md b i ok c.1 to) k in
        let first = time_order y md s.turn s.index u w.0 w.1 w.2 (slot j i) (task_starts b) h.is w.3 (omega (arith, ints, w.4, m.taken b to, o, times, h.before)) in
        none_since_start y md b i ok c.1 to es s.stay v k w.0 w.1 w.2 xs (same_mode y ds s mv same) e f w.3 w.4 (λ a g past. before_both a s.turn w.0 g s.index w.1 (step_on y ds s a g mv same past) first)

    by_register : (o : Option (Option (ℕ × List ℤ))) → recall v s.stay (last_in v b i) ds ≡ o → recall v s.stay (took v i k) ds ≡ values_of (flat o)
    by_register None e = none_all (last_in v b i) (took v i k) v s.stay ds (none_took v b i k) e
    by_register (Some None) e = nothing (recall v s.stay (took v i k) ds) (none_if_emptied e)
    by_register (Some (Some z)) e =
        some_all (last_in v b i) (took v i k) (Some (k, z.1)) z.1 v s.stay ds (none_took v b i k) (in_took v b i k z.1) (e ∙ ap (λ (x : ℕ). Some (Some (x, z.1))) (full_is_here z.0 z.1 e))

  -- ---- the first copy
  -- an earlier slot of the window is counted
  earlier_counts : (v : ℕ) (xs : List ℤ) → recall v s.stay (took v i k) ds ≡ Some xs → 2 ≤ copy_at p j i
  earlier_counts v xs e =
      let h = slot_here in
      let mv = moves y ds (stands y es) in
      let same = sym (recall_stay v s.stay (took v i k) ds xs e) in
      let b = ok.valid.consumer i c.1 in
      let w = took_was y md b.0 i ok c.1 b.1 es s.stay v k xs (same_mode y ds s mv same) e in
      let n = w.0 in
      let l = w.2.round in
      let t = w.2.tick in
      let before = step_on y ds s n w.1 mv same w.3 in
      let past = time_before y md n w.1 t s.turn s.index u (slot l i) (slot j i) w.2.is h.is before in
      let r = subst (λ (x : Entry). RightAt p x.tick x.action) w.2.is.1 (entry_right y.nodes p w.1 w.2.is.0).1 in
      let d = slot_carried y.nodes p ok t l i r in
      let at : pos t ≡ round_start p.schedule l = sym (ap (λ (z : ℕ). pos z) r.1) ∙ natural_is (round_start p.schedule l) (round_from_zero y.nodes p ok l d.0) in
      let times = ap (λ z. k * z) (ok.valid.consumer_app i b.0 c.1 b.1).0 in
      let z = pos n -ℤ pos s.turn in
      let sum = sum-times z (pos s.turn) (pos (H y md)) in
      let turn = ap (λ q. q *ℤ pos (H y md)) (let q : (z +ℤ pos s.turn) ≡ pos n = same_in _ _ (omega (arith, ints)) in q) in
      let low : (opens p.schedule i +ℤ release p j i) ≤ℤ (round_start p.schedule l +ℤ z *ℤ pos (H y md)) = omega (arith, ints, w.2.after, times, at, h.whole, sum, turn) in
      let high : (round_start p.schedule l +ℤ z *ℤ pos (H y md)) ≤ℤ round_start p.schedule j = omega (arith, ints, past, at, h.at, sum, turn) in
      let own = one_counts (counts y.nodes p ok j i c (pos 0)) (length p.schedule.starts) j c.0 (own_counts y.nodes p ok j i c) in
      ⊎_elim
      (λ (last : z ≡ pos 0 -ℤ pos 1).
      let back = ap (λ q. q *ℤ pos (H y md)) last in
      let one = sum-times (pos 0 -ℤ pos 1) (pos 1) (pos (H y md)) in
      let counted = so_counts y.nodes p ok j i c (pos 0 -ℤ pos (H y md)) l d.2 (omega (arith, ints, low, back, one)) (omega (arith, ints, high, back, one)) in
      omega (arith, copy_is y.nodes p ok j i c, own, one_counts (counts y.nodes p ok j i c (pos 0 -ℤ pos (H y md))) (length p.schedule.starts) l d.0 counted))
      (λ (this : z ≡ pos 0).
      let back = ap (λ q. q *ℤ pos (H y md)) this in
      let counted = so_counts y.nodes p ok j i c (pos 0) l d.2 (omega (arith, ints, low, back)) (omega (arith, ints, high, back)) in
      let two = two_count (counts y.nodes p ok j i c (pos 0)) (length p.schedule.starts) in
      ⊎_elim
      (λ (less : l < j). omega (arith, copy_is y.nodes p ok j i c, two l j less c.0 counted (own_counts y.nodes p ok j i c)))
      (λ (le : j ≤ l). ⊎_elim
      (λ (more : j < l). omega (arith, copy_is y.nodes p ok j i c, two j l more d.0 (own_counts y.nodes p ok j i c) counted))
      (λ (ge : l ≤ j). absurd (not_itself n w.1 l t before (omega (arith, ints, this)) (omega (arith, le, ge)) at w.2.is))
      (cases_lt j l))
      (cases_lt l j))
      (near y.nodes p ok j i c l z d.0 low high)
    where
      not_itself : (n g l t : ℕ) → (n < s.turn) ⊎ (n ≡ s.turn) × (g < s.index) → n ≡ s.turn → l ≡ j → pos t ≡ round_start p.schedule l → Is y md g t (slot l i) → ⊥
      not_itself n g l t before turn round at is =
          let h = slot_here in
          let tick : t ≡ u = omega (arith, ints, at, h.at, ap (round_start p.schedule) round) in
          let there = is.1 ∙ ap (λ z. record { tick = z; action = slot l i }) tick ∙ ap (λ z. record { tick = u; action = slot z i }) round in
          let one = slot_once y.nodes p u j i ok c.0 g s.index is.0 h.is.0 there h.is.1 in
          ⊎_elim (λ (x : n < s.turn). omega (arith, x, turn)) (λ (x : (n ≡ s.turn) × (g < s.index)). omega (arith, x.1, one)) before

pub inputs_hold_at_slots : InputsHoldAtSlots
inputs_hold_at_slots y es j i b ok c to here pl =
    let ds = history y es in
    let s = spot_next y ds in
    let v = node_of (plan_at y s.hyper.mode) b in
    by_register y es j i ok c here pl b to (recall v s.stay (last_in v b i) ds) refl

pub first_copies_are_first : FirstCopiesAreFirst
first_copies_are_first y es j i v ok c here pl first =
    let ds = history y es in
    let s = spot_next y ds in
    let k = window_at (plan_at y s.hyper.mode) s.turn j i in
    nothing (recall v s.stay (took v i k) ds) (λ xs e. omega (arith, first, earlier_counts y es j i ok c here pl v xs e))
