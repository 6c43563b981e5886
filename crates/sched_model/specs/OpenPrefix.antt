-- Lists of choices for the first decisions, and when they are open
use Rattle.std.specs.Prelude.{◌≡◌, ℕ, ◌*◌, ◌<◌, ◌≤◌, List, length, take, slice_index_or, Contains, ℤ, pos}
use Rattle.tick_num.specs.Differences.{MeetsAll}
use Rattle.sched_model.specs.PlainMode.{PlainMode, instances}
use Rattle.sched_model.specs.ConstraintProblem.{in_force, alternatives, decisions, load}

-- the rounds have slots for all copies of messages, no round is chosen more often than it has slots, and some values meet all constraints in force
pub record Open (m : PlainMode) (r : ℕ) (p : List ℤ) : Type 0 where
  pub slots : instances m ≤ r * m.slots
  pub loads : (j : ℕ) → j < r → load m r j p ≤ m.slots
  pub values : (v : ℕ → ℤ) × MeetsAll v (in_force m r p)

-- each choice is among the alternatives after those before it
abbrev pub Chosen : PlainMode → ℕ → List ℤ → Type 0
Chosen m r p = (k : ℕ) → k < length p → Contains (alternatives m r (take k p)) (slice_index_or p k (pos 0))

-- an open list of a choice for every decision
pub record FullOpen (m : PlainMode) (r : ℕ) (p : List ℤ) : Type 0 where
  pub full : length p ≡ length (decisions m)
  pub chosen : Chosen m r p
  pub is_open : Open m r p
