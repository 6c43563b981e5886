-- How far apart two places of a cycle are, by their ticks and the entries of a tick
use Rattle.std.proofs.Common.{◌≡◌, ℕ, zero, suc, ◌+◌, ◌-◌, ◌*◌, ◌<◌, ◌≤◌, length, get_or, refl, sym, ◌∙◌, ap, subst, arith, ⊎_elim, length-append}
use Rattle.std.specs.List.{flat_map}
use Rattle.std.proofs.lemmas.Bool.{cases_lt}
use Rattle.sched_model.specs.Numbers.{below}
use Rattle.sched_model.specs.PlainMode.{hyper}
use Rattle.sched_model.proofs.Lists.{flat_below-suc, get_or-flat_below, part_fits}
use Rattle.runtime_model.specs.Entries.{Entry, at_tick, cycle}
use Rattle.runtime_model.specs.Plans.{Plan}
use Rattle.runtime_model.proofs.Cycles.{none, At, at_right, all_at}

module _ (nodes : ℕ) (p : Plan) where
  -- how many entries have a tick below u
  abbrev cut : ℕ → ℕ
  cut u = length (flat_map (at_tick nodes p) (below u))

  cut_next : (u : ℕ) → cut (suc u) ≡ cut u + length (at_tick nodes p u)
  cut_next u = ap length (flat_below-suc (at_tick nodes p) u) ∙ length-append (flat_map (at_tick nodes p) (below u)) (at_tick nodes p u)

  -- the tick in whose entries a place lies
  lies : (n i : ℕ) → i < cut n → (u : ℕ) × (u < n) × (cut u ≤ i) × (i < cut (suc u))
  lies zero i l = absurd (omega (arith, l))
  lies (suc n) i l =
      ⊎_elim
      (λ (h : i < cut n). let w = lies n i h in (w.0, omega (arith, w.1), w.2, w.3))
      (λ (h : cut n ≤ i). (n, omega arith, h, l))
      (cases_lt i (cut n))

  place : (i : ℕ) → i < length (cycle nodes p) → let t = (get_or (cycle nodes p) i none).tick in (cut t ≤ i) × (i < cut (suc t))
  unfolding cycle
  place i l =
      let w = lies (hyper p.mode) i l in
      let k = i - cut w.0 in
      let inside : k < length (at_tick nodes p w.0) = omega (arith, w.2, w.3, cut_next w.0) in
      let at : cut w.0 + k ≡ i = omega (arith, w.2) in
      let found = ap (λ (z : ℕ). get_or (flat_map (at_tick nodes p) (below (hyper p.mode))) z none) (sym at) ∙ get_or-flat_below (at_tick nodes p) (hyper p.mode) w.0 k none w.1 inside in
      let tick = ap (λ (e : Entry). e.tick) found ∙ (all_at (At p w.0) (at_tick nodes p w.0) k none (at_right nodes p w.0) inside).0 in
      subst (λ (t : ℕ). (cut t ≤ i) × (i < cut (suc t))) (sym tick) (w.2, w.3)

  whole : length (cycle nodes p) ≡ cut (hyper p.mode)
  unfolding cycle
  whole = refl

  cut_rises : (u v : ℕ) → u ≤ v → cut u ≤ cut v
  cut_rises u v le =
      ⊎_elim
      (λ (l : u < v). omega (arith, part_fits (at_tick nodes p) v u l))
      (λ (l : v ≤ u). subst (λ (z : ℕ). cut u ≤ cut z) (let e : u ≡ v = omega (arith, le, l) in e) (omega arith))
      (cases_lt u v)

  -- where each tick has at most c entries
  module _ (c : ℕ) (short : (u : ℕ) → length (at_tick nodes p u) ≤ c) where
    cut_on : (g u : ℕ) → cut (u + g) ≤ cut u + g * c
    cut_on zero u = let e = ap (λ (z : ℕ). cut z) (let q : u + 0 ≡ u = omega arith in q) in omega (arith, e)
    cut_on (suc g) u =
        let e = ap (λ (z : ℕ). cut z) (let q : u + suc g ≡ suc (u + g) = omega arith in q) in
        omega (arith, e, cut_next (u + g), short (u + g), cut_on g u)

    -- a place whose tick is at most g later
    pub near : (i j g : ℕ) → i < length (cycle nodes p) → j < length (cycle nodes p) → (get_or (cycle nodes p) j none).tick ≤ (get_or (cycle nodes p) i none).tick + g → j ≤ i + (g + 1) * c
    near i j g li lj h =
        let t = (get_or (cycle nodes p) i none).tick in
        omega (arith, place i li, place j lj, cut_rises (suc (get_or (cycle nodes p) j none).tick) (t + (g + 1)) (omega (arith, h)), cut_on (g + 1) t)

    -- the end of the hyperperiod, at most g later
    pub near_end : (i g : ℕ) → i < length (cycle nodes p) → hyper p.mode ≤ (get_or (cycle nodes p) i none).tick + g → length (cycle nodes p) ≤ i + g * c
    near_end i g li h =
        let t = (get_or (cycle nodes p) i none).tick in
        omega (arith, place i li, whole, cut_rises (hyper p.mode) (t + g) h, cut_on g t)

    -- a place of tick 0
    pub near_start : (i : ℕ) → i < length (cycle nodes p) → (get_or (cycle nodes p) i none).tick ≡ 0 → i < c
    near_start i l e =
        let w = subst (λ (t : ℕ). i < cut (suc t)) e (place i l).1 in
        omega (arith, w, cut_next 0, short 0)
