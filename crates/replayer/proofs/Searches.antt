-- Where the next beacon comes, counted in Advances without loss
use Rattle.std.proofs.Common.{◌≡◌, ℕ, zero, suc, ◌+◌, ◌-◌, ◌*◌, ◌<◌, ◌≤◌, true, List, ◌∷◌, ◌++◌, length, get_or, refl, sym, ◌∙◌, ap, subst, arith, ◌⊎◌, inl, inr, ⊎_elim}
use Rattle.std.specs.Prelude.{replicate}
use Rattle.std.proofs.lemmas.Bool.{cases_lt}
use Rattle.std.proofs.lemmas.Int.{ints}
use Rattle.std.proofs.lemmas.List.{append_assoc, replicate-append-replicate}
use Rattle.sched_model.specs.Numbers.{natural}
use Rattle.sched_model.specs.Rounds.{round_start}
use Rattle.runtime_model.specs.Entries.{Entry, beacon, at_tick}
use Rattle.runtime_model.specs.Plans.{RightPlan}
use Rattle.runtime_model.specs.Outcomes.{PlainEvent, advance}
use Rattle.runtime_model.specs.System.{System, plan_at}
use Rattle.runtime_model.specs.History.{history, last_spot, spot_next, entries, entry_at, now_after}
use Rattle.runtime_model.specs.Script.{opens_round, beacon_next}
use Rattle.runtime_model.specs.Laws.{RequestsFit}
use Rattle.runtime_model.proofs.Cycles.{none}
use Rattle.runtime_model.proofs.Modes.{AllRight}
use Rattle.runtime_model.proofs.Beacons.{beacon_place, before_end, start_is, index_now}
use Rattle.runtime_model.proofs.OutRegisters.{Is, H}
use Rattle.runtime_model.proofs.FirstTicks.{Stays, Turns, onward, first_start, moments_rise, now_inside, tick_rises}
use Rattle.replayer.proofs.Places.{near, near_end, near_start}

-- the events es, and n Advances without loss behind them
abbrev pub after : ℕ → List PlainEvent → List PlainEvent
after n es = replicate n (advance 0) ++ es

pub fits_after : (y : System) (n : ℕ) (es : List PlainEvent) → RequestsFit y es → RequestsFit y (after n es)
fits_after y zero es f = f
fits_after y (suc n) es f = fits_after y n es f

-- n Advances behind m others
pub after_both : (n m : ℕ) (es : List PlainEvent) → after n (after m es) ≡ after (n + m) es
after_both n m es = sym (append_assoc (replicate n (advance 0)) (replicate m (advance 0)) es) ∙ ap (λ (fs : List PlainEvent). fs ++ es) (replicate-append-replicate n m (advance 0))

-- ---- the rounds of a right plan
module _ (y : System) (md : ℕ) (ok : RightPlan y.nodes (plan_at y md)) where
  abbrev begin_of : ℕ → ℕ
  begin_of j = natural (round_start (plan_at y md).schedule j)

  abbrev gap : ℕ
  gap = (plan_at y md).mode.gap

  -- a round that begins later than tick u and at most a gap later
  abbrev Later : ℕ → Type 0
  Later u = (j : ℕ) × (j < length (plan_at y md).schedule.starts) × (u < begin_of j) × (begin_of j ≤ u + gap)

  later_below : (n u : ℕ) → n < length (plan_at y md).schedule.starts → (begin_of n ≤ u) ⊎ Later u
  later_below zero u l = inl (let e = first_start y md ok in omega (arith, e))
  later_below (suc n) u l =
      let before : n < length (plan_at y md).schedule.starts = omega (arith, l) in
      ⊎_elim
      (λ (le : begin_of n ≤ u).
      ⊎_elim
      (λ (past : u < begin_of (suc n)). inr (suc n, l, past, omega (arith, ints, le, ok.right.s2.within n l, start_is y md ok n before, start_is y md ok (suc n) l)))
      (λ (h : begin_of (suc n) ≤ u). inl h)
      (cases_lt u (begin_of (suc n))))
      (λ (h : Later u). inr h)
      (later_below n u before)

  -- a gap later than any tick a round has begun or the hyperperiod is over
  pub later_round : (u : ℕ) → Later u ⊎ (H y md ≤ u + gap)
  later_round u =
      let r = length (plan_at y md).schedule.starts in
      let some : 0 < r = omega (arith, ok.right.shape.some, ok.right.shape.starts) in
      let last : suc (r - 1) ≡ r = omega (arith, some) in
      let inside : r - 1 < r = omega (arith, some) in
      ⊎_elim
      (λ (le : begin_of (r - 1) ≤ u). inr (omega (arith, ints, le, ok.right.s2.across (r - 1) last, start_is y md ok (r - 1) inside)))
      (λ (h : Later u). inl h)
      (later_below (r - 1) u inside)

-- ---- walks through a cycle

-- the next Advance stands at place i of a hyperperiod of this mode, which begins at tick b
pub record Next (y : System) (es : List PlainEvent) (md b i : ℕ) : Type 0 where
  pub mode : (spot_next y (history y es)).hyper.mode ≡ md
  pub begin : (spot_next y (history y es)).begin ≡ b
  pub index : (spot_next y (history y es)).index ≡ i

-- each tick has at most c entries, and no gap is greater than g
abbrev pub Small : System → ℕ → ℕ → Type 0
Small y c g = (m : ℕ) → RightPlan y.nodes (plan_at y m) → ((plan_at y m).mode.gap ≤ g) × ((u : ℕ) → length (at_tick y.nodes (plan_at y m) u) ≤ c)

-- a beacon comes after n Advances, of which the last is at tick t or earlier
pub record Soon (y : System) (es : List PlainEvent) (t : ℕ) : Type 0 where
  pub n : ℕ
  pub comes : beacon_next y (after n es) ≡ true
  pub early : now_after y (history y (after n es)) ≤ t
  pub few : (c g : ℕ) → Small y c g → n ≤ (g + 1) * c

module _ (y : System) (right : AllRight y) where
  -- inside a cycle an Advance goes on by one place, and m go on by m places
  goes : (es : List PlainEvent) (f : RequestsFit y es) (md b i : ℕ) → Next y es md b i → suc i < length (entries y md) → Next y (advance 0 ∷ es) md b (suc i)
  goes es f md b i n l =
      let ds = history y (advance 0 ∷ es) in
      ⊎_elim
      (λ (t : Stays y ds). record { mode = t.same.alike.mode ∙ n.mode; begin = t.same.begin ∙ n.begin; index = t.same.index ∙ ap suc n.index })
      (λ (t : Turns y ds). absurd (let e = ap (λ (z : ℕ). length (entries y z)) n.mode in omega (arith, t.over, n.index, l, e)))
      (onward y right (advance 0 ∷ es) f)

  goes_on : (es : List PlainEvent) (f : RequestsFit y es) (md b i m j : ℕ) → Next y es md b i → j ≡ i + m → j < length (entries y md) → Next y (after m es) md b j
  goes_on es f md b i zero j n e l = record { mode = n.mode; begin = n.begin; index = n.index ∙ (let q : i ≡ j = omega (arith, e) in q) }
  goes_on es f md b i (suc m) j n e l =
      let w = goes_on es f md b i m (i + m) n refl (omega (arith, e, l)) in
      let s = goes (after m es) (fits_after y m es f) md b (i + m) w (omega (arith, e, l)) in
      record { mode = s.mode; begin = s.begin; index = s.index ∙ (let q : suc (i + m) ≡ j = omega (arith, e) in q) }

  -- behind the last place the next hyperperiod begins
  opens : (es : List PlainEvent) (f : RequestsFit y es) (md b i : ℕ) → Next y es md b i → suc i ≡ length (entries y md) → let es' = advance 0 ∷ es in Next y es' (spot_next y (history y es')).hyper.mode (b + H y md) 0
  opens es f md b i n l =
      let ds = history y (advance 0 ∷ es) in
      let e = ap (λ (z : ℕ). length (entries y z)) n.mode in
      let h = ap (λ (z : ℕ). H y z) n.mode in
      ⊎_elim
      (λ (t : Stays y ds). absurd (omega (arith, t.same.inside, n.index, l, e)))
      (λ (t : Turns y ds). record { mode = refl; begin = let q = t.begin in omega (arith, q, n.begin, h); index = t.index })
      (onward y right (advance 0 ∷ es) f)

  -- where a beacon stands next, and no tick later is past
  reached : (es : List PlainEvent) (f : RequestsFit y es) (md b i u j : ℕ) → Next y es md b i → Is y md i u (beacon j) → (beacon_next y es ≡ true) × (now_after y (history y es) ≤ b + u)
  reached es f md b i u j n is =
      let e : entry_at y (spot_next y (history y es)) ≡ record { tick = u; action = beacon j } =
      ap (λ (z : ℕ). get_or (entries y z) (spot_next y (history y es)).index none) n.mode ∙ ap (λ (z : ℕ). get_or (entries y md) z none) n.index ∙ is.1 in
      let t = ap (λ (x : Entry). x.tick) e in
      (ap (λ (x : Entry). opens_round x.action) e, omega (arith, (moments_rise y right es 0 f).0, n.begin, t))

  -- ---- from a place of a cycle to a beacon

  -- from the first place: a beacon comes among the entries of its tick
  from_start : (es : List PlainEvent) (f : RequestsFit y es) (md b : ℕ) → RightPlan y.nodes (plan_at y md) → Next y es md b 0 →
      (n : ℕ) × (beacon_next y (after n es) ≡ true) × (now_after y (history y (after n es)) ≤ b) × ((c g : ℕ) → Small y c g → n < c)
  from_start es f md b ok next =
      let w = beacon_place y md ok 0 (omega (arith, ok.right.shape.some, ok.right.shape.starts)) in
      let zero_tick = first_start y md ok in
      let r = reached (after w.0 es) (fits_after y w.0 es f) md b w.0 _ 0 (goes_on es f md b 0 w.0 w.0 next (omega arith) w.1.0) w.1 in (
        w.0,
        r.0,
        omega (arith, r.1, zero_tick),
        λ c g small. near_start y.nodes (plan_at y md) c (small md ok).1 w.0 w.1.0 (ap (λ (x : Entry). x.tick) w.1.1 ∙ zero_tick),
      )

  -- a beacon that comes n Advances behind m more
  further : (es : List PlainEvent) (n m t : ℕ) → beacon_next y (after n (after m es)) ≡ true → now_after y (history y (after n (after m es))) ≤ t →
      (beacon_next y (after (n + m) es) ≡ true) × (now_after y (history y (after (n + m) es)) ≤ t)
  further es n m t comes early = subst (λ (fs : List PlainEvent). (beacon_next y fs ≡ true) × (now_after y (history y fs) ≤ t)) (after_both n m es) (comes, early)

  -- from any place: a beacon comes in a later round, or as the first one of the next hyperperiod
  from_place : (es : List PlainEvent) (f : RequestsFit y es) (md b i : ℕ) → RightPlan y.nodes (plan_at y md) → Next y es md b i → i < length (entries y md) → Soon y es (b + H y md)
  from_place es f md b i ok next l =
      let u = (get_or (entries y md) i none).tick in
      let size = length (entries y md) in
      ⊎_elim
      (λ (r : Later y md ok u).
      let w = beacon_place y md ok r.0 r.1 in
      let tick = ap (λ (x : Entry). x.tick) w.1.1 in
      let le : i ≤ w.0 = ⊎_elim (λ (back : w.0 < i). absurd (omega (arith, tick_rises y md w.0 i (omega (arith, back)) l, tick, r.2))) (λ (h : i ≤ w.0). h) (cases_lt w.0 i) in
      let q = reached (after (w.0 - i) es) (fits_after y (w.0 - i) es f) md b w.0 _ r.0 (goes_on es f md b i (w.0 - i) w.0 next (omega (arith, le)) w.1.0) w.1 in
      record {
        n = w.0 - i;
        comes = q.0;
        early = omega (arith, ints, q.1, before_end y md ok r.0 r.1, start_is y md ok r.0 r.1);
        few = λ c g small. omega (arith, near y.nodes (plan_at y md) c (small md ok).1 i w.0 g l w.1.0 (omega (arith, tick, r.3, (small md ok).0)));
      })
      (λ (over : H y md ≤ u + (plan_at y md).mode.gap).
      let m = size - suc i in
      let last = goes_on es f md b i m (size - 1) next (omega (arith, l)) (omega (arith, l)) in
      let es' = after (suc m) es in
      let fits = fits_after y (suc m) es f in
      let first = opens (after m es) (fits_after y m es f) md b (size - 1) last (omega (arith, l)) in
      let md' = (spot_next y (history y es')).hyper.mode in
      let w = from_start es' fits md' (b + H y md) (right (advance 0 ∷ es') fits) first in
      let v = further es w.0 (suc m) (b + H y md) w.1 w.2 in
      record {
        n = w.0 + suc m;
        comes = v.0;
        early = v.1;
        few = λ c g small. omega (arith, w.3 c g small, l, near_end y.nodes (plan_at y md) c (small md ok).1 i g l (omega (arith, over, (small md ok).0)));
      })
      (later_round y md ok u)

  -- a beacon comes at most a hyperperiod after the last Advance
  pub soon : (es : List PlainEvent) → RequestsFit y es → Soon y es (now_after y (history y es) + H y (last_spot (history y es)).hyper.mode)
  soon es f =
      let ds = history y es in
      let s = spot_next y ds in
      let md = s.hyper.mode in
      let ok = right (advance 0 ∷ es) f in
      let now = (now_inside y right es f).0 in
      ⊎_elim
      (λ (t : Stays y ds).
      let w = from_place es f md s.begin s.index ok (record { mode = refl; begin = refl; index = refl }) (index_now y right es f 0) in
      let h = ap (λ (z : ℕ). H y z) t.same.alike.mode in
      record { n = w.n; comes = w.comes; early = omega (arith, w.early, now, h, t.same.begin); few = w.few })
      (λ (t : Turns y ds).
      let w = from_start es f md s.begin ok (record { mode = refl; begin = refl; index = t.index }) in
      record { n = w.0; comes = w.1; early = omega (arith, w.2, now, t.begin); few = λ c g small. omega (arith, w.3 c g small) })
      (onward y right es f)
