-- The least values of the first constraints of a list
use Rattle.std.specs.Prelude.{ℕ, ◌<◌, List, slice_index_or, ℤ, pos, ◌≤ℤ◌}
use Rattle.tick_num.specs.declared.differences.Diff.{Diff}
use Rattle.tick_num.specs.Differences.{diff, Meets}

-- the constraint at a position
abbrev pub at : List Diff → ℕ → Diff
at ds i = slice_index_or ds i (diff 0 0 (pos 0))

-- the values meet the first k constraints
abbrev pub MeetsFirst : ℕ → List Diff → (ℕ → ℤ) → Type 0
MeetsFirst k ds v = (i : ℕ) → i < k → Meets v (at ds i)

-- no value is negative
abbrev pub FromZero : (ℕ → ℤ) → Type 0
FromZero v = (x : ℕ) → pos 0 ≤ℤ v x

-- the values are the least of those from 0 on that meet the first k constraints
pub record LeastOfFirst (k : ℕ) (ds : List Diff) (v : ℕ → ℤ) : Type 0 where
  pub solves : MeetsFirst k ds v
  pub from_zero : FromZero v
  pub least : (w : ℕ → ℤ) → MeetsFirst k ds w → FromZero w → (x : ℕ) → v x ≤ℤ w x

-- values that no least ones are above
abbrev pub Low : (ℕ → ℤ) → Type 0
Low v = (y : ℕ) → v y ≤ℤ pos 4_000_010_000_000_000_000
