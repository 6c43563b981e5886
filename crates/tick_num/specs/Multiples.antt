-- Least common multiples
use Rattle.std.specs.Prelude.{ℕ}
use Prim.Native.Nat.{◌∣◌}

-- l is the least common multiple of a and b: both divide it, and it divides each number that both divide
abbrev pub IsLcm : ℕ → ℕ → ℕ → Type 0
IsLcm a b l = (a ∣ l) × (b ∣ l) × ((m : ℕ) → a ∣ m → b ∣ m → l ∣ m)
