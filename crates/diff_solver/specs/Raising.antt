-- Values that constraints have raised from 0 in rounds
use Rattle.std.specs.Prelude.{◌≡◌, ℕ, ◌<◌, ◌≤◌, ◌+◌, ◌⊎◌, List, length, slice_set, ℤ, pos, ◌-ℤ◌, ◌≤ℤ◌, ◌<ℤ◌}
use Rattle.tick_num.specs.declared.differences.Diff.{Diff}
use Rattle.tick_num.specs.Differences.{Meets, MeetsAll, listed}
use Rattle.diff_solver.specs.declared.rounds.Swept.{Swept}
use Rattle.diff_solver.specs.declared.rounds.Swept.TheVariants.{Settled, Raised, TooHigh}
use Rattle.diff_solver.specs.Causes.{at, beside, before, IsCause}

-- how values stand after rounds from 0 on, each with the round that last raised it, from 1, and the position of the constraint that did
pub record StandsAfter (ds : List Diff) (round : ℕ) (vs : List ℤ) (rounds causes : List ℕ) : Type 0 where
  pub rounds_size : length rounds ≡ length vs
  pub causes_size : length causes ≡ length vs
  -- the values are from 0 on, and none is above a solution
  pub from_zero : (y : ℕ) → pos 0 ≤ℤ listed vs y
  pub under : (w : ℕ → ℤ) → MeetsAll w ds → ((x : ℕ) → pos 0 ≤ℤ w x) → (y : ℕ) → listed vs y ≤ℤ w y
  -- a value above 0 was raised in one of the rounds, and in the one after its cause's at the latest
  pub past : (y : ℕ) → beside rounds y ≤ round
  pub raised : (y : ℕ) → pos 0 <ℤ listed vs y → 1 ≤ beside rounds y
  pub near : (y : ℕ) → 1 ≤ beside rounds y → beside rounds y ≤ beside rounds (before ds causes y) + 1
  -- an order of the raises, and causes that agree with it
  pub time : ℕ → ℕ
  pub now : ℕ
  pub earlier : (y : ℕ) → time y < now
  pub caused : (y : ℕ) → 1 ≤ beside rounds y → IsCause ds (listed vs) time (beside causes y) y

-- values that the limit allows
abbrev pub Within : List ℤ → Type 0
Within vs = (y : ℕ) → listed vs y ≤ℤ pos 7_680_000_000_000_000

-- the constraint is met, or its x was raised in that round or later
abbrev pub Awaits : ℕ → List ℤ → List ℕ → Diff → Type 0
Awaits round vs rounds d = Meets (listed vs) d ⊎ (round ≤ beside rounds d.x)

-- only constraints from variables that were raised in that round or later may be broken
abbrev pub Pending : ℕ → List Diff → List ℤ → List ℕ → Type 0
Pending round ds vs rounds = (i : ℕ) → i < length ds → Awaits round vs rounds (at ds i)

-- a constraint at a position raises its y
pub record Raises (d : Diff) (position round : ℕ) (vs : List ℤ) (rounds causes : List ℕ) (vs' : List ℤ) (rounds' causes' : List ℕ) : Type 0 where
  pub less : listed vs d.y <ℤ (listed vs d.x -ℤ d.c)
  pub value : vs' ≡ slice_set vs d.y (listed vs d.x -ℤ d.c)
  pub marked : rounds' ≡ slice_set rounds d.y round
  pub cause : causes' ≡ slice_set causes d.y position

-- a constraint leaves everything as it is
pub record Keeps (d : Diff) (vs : List ℤ) (rounds causes : List ℕ) (vs' : List ℤ) (rounds' causes' : List ℕ) : Type 0 where
  pub met : Meets (listed vs) d
  pub value : vs' ≡ vs
  pub marked : rounds' ≡ rounds
  pub cause : causes' ≡ causes

-- what a round with that number says of its values
abbrev pub IsSwept : List Diff → ℕ → List ℤ → List ℕ → Swept → Type 0
IsSwept ds round vs rounds Settled = MeetsAll (listed vs) ds
IsSwept ds round vs rounds (Raised y) = (y < length vs) × (round ≤ beside rounds y) × Pending round ds vs rounds × Within vs
IsSwept ds round vs rounds (TooHigh y) = (y < length vs) × (pos 7_680_000_000_000_000 <ℤ listed vs y)
