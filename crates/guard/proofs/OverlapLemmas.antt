-- When a part overlaps what comes after it
use Rattle.std.proofs.Common.{◌≡◌, ℕ, suc, ◌+◌, ◌-◌, ◌*◌, ◌<◌, ◌≤◌, Bool, true, false, List, refl, ◌∙◌, ap, subst, arith, ⊎_elim, cond, eqb}
use Rattle.std.specs.Prelude.{if◌then◌else◌}
use Rattle.std.proofs.lemmas.Bool.{cases_lt, eq-eqb, ne_eqb, cond-true, cond-false, lt-ltb, le-ltb}
use Rattle.guard.specs.Clocks.{IsClock, lasted, slowest, fastest}
use Rattle.guard.specs.Parts.{part_ticks, first_tick, last_tick, Apart, tick_after, Overlaps}
use Rattle.guard.specs.Bounds.{IsLimited, MakesUp, Separates, Clears, IsEnough}
use Rattle.guard.specs.declared.parts.Round.{Round}
use Rattle.guard.proofs.ClockLemmas.{slow_lasts, fast_lasts, slow_is, fast_is}
use Rattle.guard.proofs.PartLemmas.{parted, times, part_within}

-- over plain numbers: n ticks of two clocks, of which y come off before and are added after
meet : (n y rest p fast : ℕ) → rest + y ≡ n → fast + p ≡ 1000000 → y * 1000000 < n * p → (n + y) * fast < rest * (1000000 + p)
meet n y rest p fast er ef h =
    omega (arith, h, ap (λ k. k * 1000000) er, ap (λ k. k * p) er, ap (λ k. n * k) ef, ap (λ k. y * k) ef)

module _ (r : Round) (ok : IsLimited r) (y : ℕ) (room : 2 * y < part_ticks r) where
  next_part : (s : ℕ) → s < r.slots → tick_after r y s ≡ (s + 1) * part_ticks r + y
  next_part s h =
      let e : first_tick r y (s + 1) ≡ (s + 1) * part_ticks r + y = subst (λ n. first_tick r y n ≡ n * part_ticks r + y) (let e : suc s ≡ s + 1 = omega arith in e) refl in
      ap (λ b. if b then first_tick r y (s + 1) else r.ticks) (lt-ltb s r.slots h) ∙ e

  next_round : tick_after r y r.slots ≡ r.ticks
  next_round = ap (λ b. if b then first_tick r y (r.slots + 1) else r.ticks) (le-ltb r.slots r.slots (omega arith))

  part_some : (s : ℕ) → part_ticks r ≤ (s + 1) * part_ticks r
  part_some s = omega (arith, times 1 (s + 1) (part_ticks r) (omega arith))

  -- by the slowest clock part s ends then
  ends_slowly : (s : ℕ) → s ≤ r.slots → lasted (slowest r.drift r.ticks) (last_tick r y s) ≡ ((s + 1) * part_ticks r - y) * (1000000 + r.drift)
  ends_slowly s h = slow_lasts r.drift r.ticks (last_tick r y s) (omega (arith, part_within r ok s h))

  -- and by the fastest the next one begins then
  begins_fast : (s : ℕ) → s < r.slots → lasted (fastest r.drift r.ticks) (tick_after r y s) ≡ ((s + 1) * part_ticks r + y) * (1000000 - r.drift)
  begins_fast s h =
      let next = next_part s h in
      let within = part_within r ok (s + 1) (omega arith) in
      fast_lasts r.drift r.ticks (tick_after r y s) (omega (arith, next, within)) ∙ ap (λ n. n * (1000000 - r.drift)) next

  pub overlaps_part : (s : ℕ) → s < r.slots → y * 1000000 < (s + 1) * part_ticks r * r.drift → Overlaps r y s
  overlaps_part s h over =
      let drift = ok.drift in
      let m = meet ((s + 1) * part_ticks r) y ((s + 1) * part_ticks r - y) r.drift (1000000 - r.drift) (omega (arith, part_some s)) (omega arith) over in
      omega (arith, ends_slowly s (omega arith), begins_fast s h, m)

  pub no_overlap : (s : ℕ) → s < r.slots → MakesUp r y s → Overlaps r y s → ⊥
  no_overlap s h e over =
      let drift = ok.drift in
      let m = parted ((s + 1) * part_ticks r) y ((s + 1) * part_ticks r - y) r.drift (1000000 - r.drift) (omega (arith, part_some s)) (omega arith) e in
      omega (arith, ends_slowly s (omega arith), begins_fast s h, m, over)

  pub overlaps_beacon : (Clears r y → ⊥) → Overlaps r y r.slots
  overlaps_beacon late =
      let fast = fast_lasts r.drift r.ticks (tick_after r y r.slots) (omega (arith, next_round)) ∙ ap (λ n. n * (1000000 - r.drift)) next_round in
      let all : ((r.slots + 1) * part_ticks r - y) + y ≡ (r.slots + 1) * part_ticks r = omega (arith, part_some r.slots) in
      let over = ap (λ n. n * (1000000 + r.drift)) all in
      ⊎_elim
      (λ (h : r.ticks * (1000000 - r.drift) < ((r.slots + 1) * part_ticks r - y) * (1000000 + r.drift)). omega (arith, ends_slowly r.slots (omega arith), fast, h))
      (λ h. absurd (late (omega (arith, h, over))))
      (cases_lt (r.ticks * (1000000 - r.drift)) (((r.slots + 1) * part_ticks r - y) * (1000000 + r.drift)))

  -- ---- where parts are apart, none overlaps for the slowest and the fastest clock

  -- part s has the slowest clock, and each other part the fastest
  clock_of : ℕ → ℕ → List ℕ
  clock_of s t = cond (eqb t s) (slowest r.drift r.ticks) (fastest r.drift r.ticks)

  are_clocks : (s t : ℕ) → IsClock r.drift r.ticks (clock_of s t)
  unfolding clock_of
  are_clocks s t = go (eqb t s)
    where
      go : (b : Bool) → IsClock r.drift r.ticks (cond b (slowest r.drift r.ticks) (fastest r.drift r.ticks))
      go true = slow_is r.drift r.ticks
      go false = fast_is r.drift r.ticks

  slow_at : (s : ℕ) → clock_of s s ≡ slowest r.drift r.ticks
  unfolding clock_of
  slow_at s = cond-true (eqb s s) (slowest r.drift r.ticks) (fastest r.drift r.ticks) (eq-eqb s s refl)

  fast_at : (s t : ℕ) → (t ≡ s → ⊥) → clock_of s t ≡ fastest r.drift r.ticks
  unfolding clock_of
  fast_at s t n = cond-false (eqb t s) (slowest r.drift r.ticks) (fastest r.drift r.ticks) (ne_eqb t s n)

  pub apart_overlaps : Apart r y → (s : ℕ) → s ≤ r.slots → Overlaps r y s → ⊥
  apart_overlaps apart s h over =
      let turn = apart (clock_of s) r.ticks (omega arith) (λ t _. are_clocks s t) in
      let slow = ap (λ c. lasted c (last_tick r y s)) (slow_at s) in
      ⊎_elim
      (λ (l : s < r.slots).
      let fast = ap (λ c. lasted c (first_tick r y (s + 1))) (fast_at s (s + 1) (λ e. omega (arith, e))) in
      let next = ap (λ b. lasted (fastest r.drift r.ticks) (if b then first_tick r y (s + 1) else r.ticks)) (lt-ltb s r.slots l) in
      omega (arith, turn.parts s (s + 1) (omega arith) (omega arith), slow, fast, next, over))
      (λ l.
      let slots = ok.slots in
      let fast = ap (λ c. lasted c r.ticks) (fast_at s 0 (λ e. omega (arith, e))) in
      let next = ap (λ b. lasted (fastest r.drift r.ticks) (if b then first_tick r y (s + 1) else r.ticks)) (le-ltb s r.slots l) in
      omega (arith, turn.beacon s h, slow, fast, next, over))
      (cases_lt s r.slots)

  -- so what keeps them apart is enough
  pub apart_is_enough : Apart r y → IsEnough r y
  apart_is_enough apart = (parts, clears)
    where
      parts : Separates r y
      parts = ⊎_elim
          (λ (h : y * 1000000 < r.slots * part_ticks r * r.drift).
          let slots = ok.slots in
          let last : (r.slots - 1) + 1 ≡ r.slots = omega arith in
          absurd (apart_overlaps apart (r.slots - 1) (omega arith) (overlaps_part (r.slots - 1) (omega arith) (omega (arith, h, ap (λ n. n * part_ticks r * r.drift) last)))))
          (λ h. h)
          (cases_lt (y * 1000000) (r.slots * part_ticks r * r.drift))

      clears : Clears r y
      clears = ⊎_elim
          (λ (h : y * (1000000 + r.drift) + r.ticks * (1000000 - r.drift) < (r.slots + 1) * part_ticks r * (1000000 + r.drift)).
          absurd (apart_overlaps apart r.slots (omega arith) (overlaps_beacon (λ e. omega (arith, e, h)))))
          (λ h. h)
          (cases_lt (y * (1000000 + r.drift) + r.ticks * (1000000 - r.drift)) ((r.slots + 1) * part_ticks r * (1000000 + r.drift)))
