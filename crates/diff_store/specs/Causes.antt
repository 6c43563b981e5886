-- Causes: beside each variable the position of the constraint that last raised it
use Rattle.std.specs.Prelude.{◌≡◌, ℕ, zero, suc, ◌-◌, ◌<◌, ◌⊎◌, Bool, true, false, List, length, slice_index_or, ℤ, pos, ◌-ℤ◌, ◌≤ℤ◌, ◌<ℤ◌}
use Rattle.tick_num.specs.declared.differences.Diff.{Diff}
use Rattle.diff_store.specs.Leasts.{at, MeetsFirst, FromZero}

-- the number beside a variable
abbrev pub beside : List ℕ → ℕ → ℕ
beside ns y = slice_index_or ns y 0

-- whether a variable is marked
abbrev pub marked : List Bool → ℕ → Bool
marked marks y = slice_index_or marks y false

-- the constraint that was pushed last
abbrev pub newest : List Diff → Diff
newest ds = at ds (length ds - 1)

-- the constraint at a position, one of the first k, is the cause of y's value: it ends at y and forces the value; it forces more, or y was raised after the variable that it starts from
pub record IsCause (k : ℕ) (ds : List Diff) (v : ℕ → ℤ) (time : ℕ → ℕ) (i y : ℕ) : Type 0 where
  pub within : i < k
  pub ends : (at ds i).y ≡ y
  pub forces : (v y <ℤ (v (at ds i).x -ℤ (at ds i).c)) ⊎ ((v y ≤ℤ (v (at ds i).x -ℤ (at ds i).c)) × (time (at ds i).x < time y))

-- each value above 0 has a cause among the first k constraints, in an order of the raises
pub record HeldByFirst (k : ℕ) (ds : List Diff) (v : ℕ → ℤ) (causes : ℕ → ℕ) : Type 0 where
  pub time : ℕ → ℕ
  pub now : ℕ
  pub earlier : (y : ℕ) → time y < now
  pub caused : (y : ℕ) → pos 0 <ℤ v y → IsCause k ds v time (causes y) y

-- so many causes, all older than the newest constraint, lead from x down to y, each from a marked variable
abbrev pub Descends : List Diff → (ℕ → ℤ) → (ℕ → ℕ) → List Bool → ℕ → ℕ → ℕ → Type 0
Descends ds v causes chain zero x y = x ≡ y
Descends ds v causes chain (suc k) x y = (marked chain x ≡ true) × (pos 0 <ℤ v x) × (causes x < length ds - 1) × Descends ds v causes chain k (at ds (causes x)).x y

-- all that is marked is on the chain of causes from x down
abbrev pub Chain : List Diff → (ℕ → ℤ) → (ℕ → ℕ) → List Bool → ℕ → Type 0
Chain ds v causes chain x = (y : ℕ) → marked chain y ≡ true → (k : ℕ) × Descends ds v causes chain k x y

-- the newest constraint raised values above those that meet the others, each one is caused, and the last one would raise a variable of the chain from the newest one's x down
pub record LeadsHome (ds : List Diff) (causes : List ℕ) (last : ℕ) : Type 0 where
  pub base : ℕ → ℤ
  pub solves : MeetsFirst (length ds - 1) ds base
  pub from_zero : FromZero base
  pub values : ℕ → ℤ
  pub above : (y : ℕ) → base y ≤ℤ values y
  pub top : (y : ℕ) → values y ≤ℤ pos 8_100_000_000_000_000_000
  pub time : ℕ → ℕ
  pub caused : (y : ℕ) → pos 0 <ℤ values y → IsCause (length ds) ds values time (beside causes y) y
  pub chain : List Bool
  pub own : marked chain (newest ds).x ≡ true
  pub kept : (y : ℕ) → marked chain y ≡ true → values y ≡ base y
  pub descends : Chain ds values (beside causes) chain (newest ds).x
  pub within : last < length ds
  pub ends : marked chain (at ds last).y ≡ true
  pub forces : values (at ds last).y <ℤ (values (at ds last).x -ℤ (at ds last).c)
