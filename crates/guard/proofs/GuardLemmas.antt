-- The least guard of a round, from the least number that is enough
use Rattle.std.proofs.Common.{◌≡◌, ℕ, ◌+◌, ◌-◌, ◌*◌, ◌/◌, ◌%◌, ◌<◌, ◌≤◌, min, max, ap, subst, sym, arith, ⊎_elim}
use Rattle.std.specs.Prelude.{unsigned_abs, if◌then◌else◌}
use Rattle.std.proofs.lemmas.Bool.{cases_lt, lt-ltb, le-ltb}
use Rattle.std.proofs.lemmas.Grind.{div_ceil_times}
use Rattle.std.proofs.lemmas.Nat.{div-add-mod', mod_below}
use Rattle.std.proofs.Math.Nat.{one-le-mul, div-mul-le_self}
use Rattle.app_graph.specs.declared.mode_set.ModeSet.{ModeSet}
use Rattle.app_graph.specs.Validation.{KeepsRules}
use Rattle.sched_model.proofs.KeptRules.{kept_set}
use Rattle.guard.specs.Parts.{part_ticks, Overlaps, IsFirstOverlap}
use Rattle.guard.specs.Bounds.{IsLimited, Separates, Clears, IsEnough, IsLeastOf, IsFirstOpen}
use Rattle.guard.specs.Guards.{Keeps, round_of}
use Rattle.guard.specs.declared.parts.Round.{Round}
use Rattle.guard.proofs.PartLemmas.{times, enough_is_apart}
use Rattle.guard.proofs.OverlapLemmas.{overlaps_part, no_overlap, overlaps_beacon, apart_is_enough}

module _ (r : Round) (ok : IsLimited r) where
  -- no guard at all is not enough for a part that has a tick
  pub some_guard : (y : ℕ) → IsEnough r y → 2 * y < part_ticks r → 1 ≤ y
  some_guard y e room =
      let slots = ok.slots in
      let drift = ok.drift in
      let first = times 1 r.slots (part_ticks r * r.drift) (omega arith) in
      let second = times 1 (part_ticks r) r.drift (omega arith) in
      omega (arith, e.0, first, second)

  -- what keeps the parts apart is at least the least number that is enough
  pub keeps_least : (y : ℕ) → IsLeastOf (IsEnough r) y → (z : ℕ) → Keeps r z → y ≤ z
  keeps_least y l z k = l.least z (apart_is_enough r ok z k.room k.apart)

  -- the first part from which a guard below the least does not part the next one is the first that overlaps what comes after it
  pub first_overlaps : (y z first second : ℕ) → IsLeastOf (IsEnough r) y → z < y → 2 * z < part_ticks r → IsFirstOpen r z first second → IsFirstOverlap r z first second
  first_overlaps y z first second l below room open_ = record {
    part = open_.part;
    after = open_.after;
    overlaps = ⊎_elim
        (λ (h : first < r.slots). overlaps_part r ok z room first h (⊎_elim
        (λ (o : z * 1000000 < (first + 1) * part_ticks r * r.drift). o)
        (λ o. absurd (open_.open_at h o))
        (cases_lt (z * 1000000) ((first + 1) * part_ticks r * r.drift))))
        (λ h.
        let slots = ok.slots in
        let is : r.slots ≡ first = omega (arith, h, open_.part) in
        let last : (r.slots - 1) + 1 ≡ r.slots = omega arith in
        let parts : Separates r z = omega (arith, open_.separates (r.slots - 1) (omega arith), ap (λ n. n * part_ticks r * r.drift) last) in
        subst (Overlaps r z) is (overlaps_beacon r ok z room (λ clears. omega (arith, l.least z (parts, clears)))))
        (cases_lt first r.slots);
    earlier = λ s h. no_overlap r ok z room s (omega (arith, open_.part)) (open_.separates s h);
  }

  pub keeps : (y : ℕ) → IsLeastOf (IsEnough r) y → 2 * y < part_ticks r → Keeps r y
  keeps y l room = record { room = room; apart = enough_is_apart r ok y room l.holds }

  -- ---- the sums that the code computes
  some_drift : (y : ℕ) → 2 * y < part_ticks r → 0 < part_ticks r * r.drift
  some_drift y room = let drift = ok.drift in one-le-mul {a = part_ticks r} {b = r.drift} (omega arith) (omega arith)

  pub first_open : (z first : ℕ) → 2 * z < part_ticks r → first ≡ z * 1000000 / (part_ticks r * r.drift) → first < r.slots → IsFirstOpen r z first (first + 1)
  first_open z first room e h =
      let q = z * 1000000 / (part_ticks r * r.drift) in
      let low : q * (part_ticks r * r.drift) ≤ z * 1000000 = div-mul-le_self (z * 1000000) (part_ticks r * r.drift) in
      let whole = div-add-mod' (z * 1000000) (part_ticks r * r.drift) in
      let rest = mod_below (z * 1000000) (part_ticks r * r.drift) (some_drift z room) in
      let same = ap (λ n. n * (part_ticks r * r.drift)) e in
      record {
        part = omega arith;
        after = sym (ap (λ b. if b then first + 1 else 0) (lt-ltb first r.slots h));
        separates = λ s l. omega (arith, low, same, times (s + 1) first (part_ticks r * r.drift) (omega arith));
        open_at = λ _ o. omega (arith, whole, rest, same, o);
      }

  pub last_open : (z first : ℕ) → first ≡ z * 1000000 / (part_ticks r * r.drift) → r.slots ≤ first → IsFirstOpen r z r.slots 0
  last_open z first e h =
      let low : z * 1000000 / (part_ticks r * r.drift) * (part_ticks r * r.drift) ≤ z * 1000000 = div-mul-le_self (z * 1000000) (part_ticks r * r.drift) in
      let same = ap (λ n. n * (part_ticks r * r.drift)) e in
      record {
        part = omega arith;
        after = sym (ap (λ b. if b then r.slots + 1 else 0) (le-ltb r.slots r.slots (omega arith)));
        separates = λ s l. omega (arith, low, same, times (s + 1) first (part_ticks r * r.drift) (omega arith));
        open_at = λ l _. omega (arith, l);
      }

-- the least multiple of b that is at least a
least_times : (a b q m : ℕ) → 0 < b → q ≡ a / b + min 1 (a % b) → a ≤ m * b → q ≤ m
least_times a b q m some e h =
    let c = div_ceil_times a b some in
    let over = ap (λ n. n * b) e in
    ⊎_elim (λ (l : m < q). absurd (omega (arith, c, over, h, times (m + 1) q b (omega arith)))) (λ l. l) (cases_lt m q)

enough_times : (a b q : ℕ) → 0 < b → q ≡ a / b + min 1 (a % b) → a ≤ q * b
enough_times a b q some e = let c = div_ceil_times a b some in omega (arith, c, ap (λ n. n * b) e)

pub least_clears : (r : Round) (over q : ℕ) → over ≡ (r.slots + 1) * part_ticks r * (1000000 + r.drift) - r.ticks * (1000000 - r.drift)
    → q ≡ over / (1000000 + r.drift) + min 1 (over % (1000000 + r.drift)) → IsLeastOf (Clears r) q
least_clears r over q eo e = record {
  holds = omega (arith, eo, enough_times over (1000000 + r.drift) q (omega arith) e);
  least = λ m h. least_times over (1000000 + r.drift) q m (omega arith) e (omega (arith, eo, h));
}

-- the greater of two least numbers is the least of which both hold
pub least_both : (r : Round) (a b q : ℕ) → IsLeastOf (Separates r) a → IsLeastOf (Clears r) b → q ≡ max a b → IsLeastOf (IsEnough r) q
least_both r a b q la lb e = record {
  holds = (
    omega (arith, la.holds, times a q 1000000 (omega arith)),
    omega (arith, lb.holds, times b q (1000000 + r.drift) (omega arith)),
  );
  least = λ m h. omega (arith, e, la.least m h.0, lb.least m h.1);
}

-- a round of a set that keeps the rules is within the limits
pub limited : (set : ModeSet) (drift : ℕ) → KeepsRules set → (1 ≤ drift) × (drift ≤ 100000) → IsLimited (round_of set drift)
limited set drift (raw, kept, is) d =
    let k = kept_set raw kept in
    let slots = ap (λ (s : ModeSet). s.slots) is in
    let ticks = ap (λ (s : ModeSet). unsigned_abs s.round) is in
    record {
      slots = (omega (arith, k.slots, slots), omega (arith, k.slots, slots));
      ticks = (omega (arith, k.round, ticks), omega (arith, k.round, ticks));
      drift = d;
    }

-- and so is its gap
pub gap_limited : (set : ModeSet) → KeepsRules set → unsigned_abs set.gap ≤ 1000000000
gap_limited set (raw, kept, is) = omega (arith, (kept_set raw kept).gap, ap (λ (s : ModeSet). unsigned_abs s.gap) is)
