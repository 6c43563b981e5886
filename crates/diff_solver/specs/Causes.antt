-- Causes: beside each variable the position of the constraint that last raised it
use Rattle.std.specs.Prelude.{◌≡◌, ℕ, zero, suc, ◌<◌, ◌≤◌, ◌⊎◌, List, length, slice_index_or, ℤ, pos, ◌-ℤ◌, ◌≤ℤ◌, ◌<ℤ◌}
use Rattle.tick_num.specs.declared.differences.Diff.{Diff}
use Rattle.tick_num.specs.Differences.{diff}

-- the constraint at a position
abbrev pub at : List Diff → ℕ → Diff
at ds i = slice_index_or ds i (diff 0 0 (pos 0))

-- the number beside a variable
abbrev pub beside : List ℕ → ℕ → ℕ
beside ns y = slice_index_or ns y 0

-- the variable that the cause of y starts from
abbrev pub before : List Diff → List ℕ → ℕ → ℕ
before ds causes y = (at ds (beside causes y)).x

-- the variable k causes back from y
unfoldable pub back : List Diff → List ℕ → ℕ → ℕ → ℕ
back ds causes y zero = y
back ds causes y (suc k) = before ds causes (back ds causes y k)

-- the constraint at a position is the cause of y's value: it ends at y and forces the value; it forces more, or y was raised after the variable that it starts from
pub record IsCause (ds : List Diff) (v : ℕ → ℤ) (time : ℕ → ℕ) (i y : ℕ) : Type 0 where
  pub within : i < length ds
  pub ends : (at ds i).y ≡ y
  pub forces : (v y <ℤ (v (at ds i).x -ℤ (at ds i).c)) ⊎ ((v y ≤ℤ (v (at ds i).x -ℤ (at ds i).c)) × (time (at ds i).x < time y))

-- the n variables back from y are caused
pub record LeadsBack (ds : List Diff) (causes : List ℕ) (n y : ℕ) : Type 0 where
  pub values : ℕ → ℤ
  pub time : ℕ → ℕ
  pub caused : (k : ℕ) → k < n → IsCause ds values time (beside causes (back ds causes y k)) (back ds causes y k)

-- the causes lead from y back to y in one to n steps
pub record ComesRound (ds : List Diff) (causes : List ℕ) (n y : ℕ) : Type 0 where
  pub values : ℕ → ℤ
  pub time : ℕ → ℕ
  pub steps : ℕ
  pub some : 1 ≤ steps
  pub few : steps ≤ n
  pub caused : (k : ℕ) → k < steps → IsCause ds values time (beside causes (back ds causes y k)) (back ds causes y k)
  pub closed : back ds causes y steps ≡ y
