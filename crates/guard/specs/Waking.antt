-- When a node wakes for a beacon
use Rattle.std.specs.Prelude.{ℕ, ◌-◌, ◌*◌, ◌<◌, ◌≤◌, List}
use Rattle.guard.specs.Clocks.{IsClock, lasted, slowest, fastest}

-- a node that wakes this many ticks early, by its clock, is awake when the host's beacon comes, whatever their clocks are. The last beacon
-- that it heard was at most two gaps ago, for it may have missed one since
abbrev pub Awake : ℕ → ℕ → ℕ → Type 0
Awake gap drift early =
    (node host : List ℕ) (d : ℕ) → IsClock drift d node → IsClock drift d host → early ≤ d → d ≤ 2 * gap → lasted node (d - early) ≤ lasted host d

-- it still sleeps then, two gaps after the last one, where its clock is the slowest and the host's the fastest
abbrev pub Sleeps : ℕ → ℕ → ℕ → Type 0
Sleeps gap drift early = lasted (fastest drift (2 * gap)) (2 * gap) < lasted (slowest drift (2 * gap)) (2 * gap - early)

-- the least number of ticks with which it is awake: with each smaller one it sleeps
pub record IsLeastWake (gap drift early : ℕ) : Type 0 where
  pub awake : Awake gap drift early
  pub least : (e : ℕ) → Awake gap drift e → early ≤ e
  pub sleeps : (e : ℕ) → e < early → Sleeps gap drift e
