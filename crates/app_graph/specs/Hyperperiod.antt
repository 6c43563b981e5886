-- The least common multiple of periods
use Rattle.std.specs.Prelude.{ℕ, zero, suc, ◌+◌, ◌%◌, ◌<◌, if◌then◌else◌, nat_eq, List, fold, All}
use Prim.Native.Nat.{◌∣◌}

-- the first of k, k + a, k + 2 * a, .. that b divides, looked for n times
abbrev pub multiple_from : ℕ → ℕ → ℕ → ℕ → ℕ
multiple_from zero k a b = k
multiple_from (suc n) k a b = if nat_eq (k % b) 0 then k else multiple_from n (k + a) a b

-- the first multiple of a that b divides
abbrev pub lcm : ℕ → ℕ → ℕ
lcm a b = multiple_from b a a b

-- the least common multiple of all periods
unfoldable pub hyperperiod : List ℕ → ℕ
hyperperiod periods = fold lcm 1 periods

-- positive periods divide their hyperperiod, and it divides each number that all of them divide
abbrev pub HyperperiodLaw : Type 0
HyperperiodLaw =
    (periods : List ℕ) → All (λ p. 0 < p) periods
    → (0 < hyperperiod periods) × All (λ p. p ∣ hyperperiod periods) periods
    × ((m : ℕ) → All (λ p. p ∣ m) periods → hyperperiod periods ∣ m)
