-- When the parts of a round are apart under a guard
use Rattle.std.proofs.Common.{◌≡◌, ℕ, zero, suc, ◌+◌, ◌-◌, ◌*◌, ◌<◌, ◌≤◌, List, ap, arith}
use Rattle.std.proofs.Math.Nat.{mul-le-mul_right, mul-div-le}
use Rattle.guard.specs.Clocks.{IsClock, lasted}
use Rattle.guard.specs.Parts.{part_ticks, first_tick, last_tick, begins, ends, Apart}
use Rattle.guard.specs.Bounds.{IsLimited, MakesUp, Separates, Clears, IsEnough}
use Rattle.guard.specs.declared.parts.Round.{Round}
use Rattle.guard.proofs.ClockLemmas.{lasts_at_most, lasts_at_least}

-- ---- over plain numbers: n ticks of two clocks, of which y come off before and are added after
pub parted : (n y rest p fast : ℕ) → rest + y ≡ n → fast + p ≡ 1000000 → n * p ≤ y * 1000000 → rest * (1000000 + p) ≤ (n + y) * fast
parted n y rest p fast er ef h =
    omega (arith, h, ap (λ k. k * 1000000) er, ap (λ k. k * p) er, ap (λ k. n * k) ef, ap (λ k. y * k) ef)

pub times : (a b k : ℕ) → a ≤ b → a * k ≤ b * k
times a b k h = mul-le-mul_right k h

module _ (r : Round) (ok : IsLimited r) where
  -- the parts are within the round
  pub parts_within : (r.slots + 1) * part_ticks r ≤ r.ticks
  parts_within = mul-div-le r.ticks (r.slots + 1)

  -- the first s + 1 parts of a round
  pub part_within : (s : ℕ) → s ≤ r.slots → (s + 1) * part_ticks r ≤ r.ticks
  part_within s h = omega (arith, parts_within, times (s + 1) (r.slots + 1) (part_ticks r) (omega arith))

  later_begins : (y s t : ℕ) → s < t → (s + 1) * part_ticks r + y ≤ first_tick r y t
  later_begins y s zero h = absurd (omega arith)
  later_begins y s (suc t) h = omega (arith, times (s + 1) (suc t) (part_ticks r) (omega arith))

  -- one part's drift is at most that of all the slots
  each_parted : (y s : ℕ) → s < r.slots → Separates r y → MakesUp r y s
  each_parted y s h e = omega (arith, e, times ((s + 1) * part_ticks r) (r.slots * part_ticks r) r.drift (times (s + 1) r.slots (part_ticks r) (omega arith)))

  -- ---- enough keeps the parts apart, whatever their clocks
  module _ (y : ℕ) (room : 2 * y < part_ticks r) (clocks : ℕ → List ℕ) (d : ℕ) (far : r.ticks ≤ d) (are : (s : ℕ) → s ≤ r.slots → IsClock r.drift d (clocks s)) where
    pub some_parts : (s : ℕ) → part_ticks r ≤ (s + 1) * part_ticks r
    some_parts s = omega (arith, times (1) (s + 1) (part_ticks r) (omega arith))

    ends_by : (s : ℕ) → s ≤ r.slots → ends r y clocks s ≤ ((s + 1) * part_ticks r - y) * (1000000 + r.drift)
    ends_by s h = lasts_at_most r.drift d (last_tick r y s) (clocks s) (are s h) (omega (arith, part_within s h))

    tick_within : (t : ℕ) → t ≤ r.slots → first_tick r y t ≤ d
    tick_within zero h = omega arith
    tick_within (suc t) h = omega (arith, part_within (suc t) h)

    apart_parts : Separates r y → (s t : ℕ) → s < t → t ≤ r.slots → ends r y clocks s ≤ begins r y clocks t
    apart_parts e s t h l =
        let fast = lasts_at_least r.drift d (first_tick r y t) (clocks t) (are t l) (tick_within t l) in
        let drift = ok.drift in
        let between = parted ((s + 1) * part_ticks r) y ((s + 1) * part_ticks r - y) r.drift (1000000 - r.drift) (omega (arith, some_parts s)) (omega arith) (each_parted y s (omega arith) e) in
        let on = mul-le-mul_right (1000000 - r.drift) (later_begins y s t h) in
        omega (arith, ends_by s (omega arith), fast, between, on)

    apart_beacon : Clears r y → (s : ℕ) → s ≤ r.slots → ends r y clocks s ≤ lasted (clocks 0) d
    apart_beacon e s h =
        let drift = ok.drift in
        let fast = lasts_at_least r.drift d d (clocks 0) (are 0 (omega arith)) (omega arith) in
        let on = mul-le-mul_right (1000000 - r.drift) far in
        let part = times (s + 1) (r.slots + 1) (part_ticks r) (omega arith) in
        let more = times ((s + 1) * part_ticks r - y) ((r.slots + 1) * part_ticks r - y) (1000000 + r.drift) (omega (arith, part)) in
        let all : ((r.slots + 1) * part_ticks r - y) + y ≡ (r.slots + 1) * part_ticks r = omega (arith, some_parts r.slots) in
        omega (arith, ends_by s h, fast, on, more, e, ap (λ n. n * (1000000 + r.drift)) all)

  pub enough_is_apart : (y : ℕ) → 2 * y < part_ticks r → IsEnough r y → Apart r y
  enough_is_apart y room e = λ clocks d far are. record {
    parts = apart_parts y room clocks d far are e.0;
    beacon = apart_beacon y room clocks d far are e.1;
  }
