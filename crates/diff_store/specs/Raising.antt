-- Values that the newest constraint has raised
use Rattle.std.specs.Prelude.{◌≡◌, ℕ, ◌+◌, ◌*◌, ◌-◌, ◌<◌, ◌≤◌, ◌⊎◌, Bool, true, List, length, slice_index_or, false, sum_by, count_by, ℤ, pos, ◌-ℤ◌, ◌≤ℤ◌, unsigned_abs}
use Rattle.tick_num.specs.declared.differences.Diff.{Diff}
use Rattle.tick_num.specs.Differences.{Meets, listed}
use Rattle.diff_store.specs.Leasts.{at, MeetsFirst, FromZero, LeastOfFirst, Low}
use Rattle.diff_store.specs.Causes.{beside, marked, newest, Chain, HeldByFirst}

-- whether a variable waits
abbrev pub waits_in : List Bool → ℕ → Bool
waits_in waits x = slice_index_or waits x false

-- no variable waits
abbrev pub NoneWaits : List Bool → Type 0
NoneWaits waits = (x : ℕ) → waits_in waits x ≡ false

-- the constraint at a position is met, or its x waits, or it is one of those from x from the bound on
abbrev pub Awaits : List Diff → List ℤ → List Bool → ℕ → ℕ → ℕ → Type 0
Awaits ds vs waits x bound i = Meets (listed vs) (at ds i) ⊎ ((waits_in waits (at ds i).x ≡ true) ⊎ (((at ds i).x ≡ x) × (bound ≤ i)))

-- values above the least ones of the older constraints, and none higher than the newest one forces; what is still to be looked at are the constraints from waiting variables, and those from x from the bound on
pub record Raising (ds : List Diff) (vs : List ℤ) (causes : List ℕ) (chain waits : List Bool) (x bound : ℕ) : Type 0 where
  pub some : 0 < length ds
  pub causes_size : length causes ≡ length vs
  pub waits_size : length waits ≡ length vs
  -- the least values of the older constraints
  pub base : ℕ → ℤ
  pub least : LeastOfFirst (length ds - 1) ds base
  pub low : Low base
  pub above : (y : ℕ) → base y ≤ℤ listed vs y
  pub under : (w : ℕ → ℤ) → MeetsFirst (length ds - 1) ds w → FromZero w → (base (newest ds).x -ℤ (newest ds).c) ≤ℤ w (newest ds).y → (y : ℕ) → listed vs y ≤ℤ w y
  pub awaits : (i : ℕ) → i < length ds → Awaits ds vs waits x bound i
  -- the variables of the chain from the newest one's x down keep their values
  pub own : marked chain (newest ds).x ≡ true
  pub kept : (y : ℕ) → marked chain y ≡ true → listed vs y ≡ base y
  pub descends : Chain ds (listed vs) (beside causes) chain (newest ds).x
  pub held : HeldByFirst (length ds) ds (listed vs) (beside causes)

-- how far values may still rise and variables may still be taken
abbrev pub left_to_do : List ℤ → List Bool → ℕ
left_to_do vs waits = 2 * sum_by (λ v. unsigned_abs (pos 8_100_000_000_000_000_000 -ℤ v)) vs + count_by (λ w. w) waits
