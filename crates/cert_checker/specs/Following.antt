-- A cycle that is read number by number
use Rattle.std.specs.Prelude.{ℕ, Bool, ◌&&◌, nat_lt, nat_eq, ℤ, pos, ◌+ℤ◌, int_lt, List, [], ◌∷◌, length, slice_index_or}
use Rattle.tick_num.specs.declared.differences.Diff.{Diff}
use Rattle.tick_num.specs.Differences.{diff}

-- the constraint of this number
abbrev pub constraint_at : List Diff → ℕ → Diff
constraint_at ds i = slice_index_or ds i (diff 0 0 (pos 0))

-- the numbers lead on from the variable at, the last one to x, and their bounds and the sum so far are together below 0
abbrev pub goes_round : List Diff → ℕ → ℕ → ℤ → List ℕ → Bool
goes_round ds x at sum [] = nat_eq at x && int_lt sum (pos 0)
goes_round ds x at sum (i ∷ is) = nat_lt i (length ds) && (nat_eq at (constraint_at ds i).x && goes_round ds x (constraint_at ds i).y (sum +ℤ (constraint_at ds i).c) is)
