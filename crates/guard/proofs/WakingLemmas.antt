-- The least number of ticks by which a node wakes early
use Rattle.std.proofs.Common.{◌≡◌, ℕ, ◌+◌, ◌-◌, ◌*◌, ◌<◌, ◌≤◌, ap, arith, ⊎_elim}
use Rattle.std.proofs.lemmas.Bool.{cases_lt}
use Rattle.std.proofs.Math.Nat.{mul-le-mul_right}
use Rattle.guard.specs.Clocks.{slowest, fastest}
use Rattle.guard.specs.Waking.{Awake, Sleeps, IsLeastWake}
use Rattle.guard.proofs.ClockLemmas.{lasts_at_most, lasts_at_least, slow_lasts, fast_lasts, slow_is, fast_is}

-- (d - a) * (M + p) is at most d * (M - p) where 2 * d * p is at most a * (M + p)
early_enough : (d a rest p fast : ℕ) → rest + a ≡ d → fast + p ≡ 1000000 → 2 * d * p ≤ a * (1000000 + p) → rest * (1000000 + p) ≤ d * fast
early_enough d a rest p fast er ef h =
    omega (arith, h, ap (λ n. n * 1000000) er, ap (λ n. n * p) er, ap (λ n. d * n) ef)

too_late : (d a rest p fast : ℕ) → rest + a ≡ d → fast + p ≡ 1000000 → a * (1000000 + p) < 2 * d * p → d * fast < rest * (1000000 + p)
too_late d a rest p fast er ef h =
    omega (arith, h, ap (λ n. n * 1000000) er, ap (λ n. n * p) er, ap (λ n. d * n) ef)

-- a node wakes in time where twice the drift over two gaps is within the ticks by which it is early
pub wakes : (gap p a : ℕ) → p ≤ 100000 → 4 * gap * p ≤ a * (1000000 + p) → Awake gap p a
wakes gap p a small h = λ node host d n c early far.
    let later = lasts_at_most p d (d - a) node n (omega arith) in
    let sooner = lasts_at_least p d d host c (omega arith) in
    let some : d * p ≤ 2 * gap * p = mul-le-mul_right p far in
    let enough = early_enough d a (d - a) p (1000000 - p) (omega arith) (omega arith) (omega (arith, some, h)) in
    omega (arith, later, sooner, enough)

-- and else it still sleeps, with the slowest clock, where the host has the fastest
pub sleeps : (gap p a : ℕ) → p ≤ 100000 → a * (1000000 + p) < 4 * gap * p → (a ≤ 2 * gap) × Sleeps gap p a
sleeps gap p a small h =
    let within : a ≤ 2 * gap = ⊎_elim
    (λ (far : 2 * gap < a). absurd (omega (arith, h, mul-le-mul_right (1000000 + p) far, mul-le-mul_right gap small)))
    (λ near. near)
    (cases_lt (2 * gap) a) in
    let host = fast_lasts p (2 * gap) (2 * gap) (omega arith) in
    let node = slow_lasts p (2 * gap) (2 * gap - a) (omega arith) in
    let late = too_late (2 * gap) a (2 * gap - a) p (1000000 - p) (omega arith) (omega arith) (omega (arith, h)) in
    (within, omega (arith, host, node, late))

-- so the least number with the first is the least that wakes in time
pub least_wake : (gap p a : ℕ) → p ≤ 100000 → 4 * gap * p ≤ a * (1000000 + p) → a * (1000000 + p) < 4 * gap * p + (1000000 + p) → IsLeastWake gap p a
least_wake gap p a small enough least =
    let below : (e : ℕ) → e < a → e * (1000000 + p) < 4 * gap * p = λ e h. omega (arith, least, mul-le-mul_right (1000000 + p) h) in
    record {
      awake = wakes gap p a small enough;
      least = λ e awake. ⊎_elim
          (λ (h : e < a).
          let s = sleeps gap p e small (below e h) in
          let met = awake (slowest p (2 * gap)) (fastest p (2 * gap)) (2 * gap) (slow_is p (2 * gap)) (fast_is p (2 * gap)) s.0 (omega arith) in
          absurd (omega (arith, s.1, met)))
          (λ h. h)
          (cases_lt e a);
      sleeps = λ e h. (sleeps gap p e small (below e h)).1;
    }
