-- Clocks that drift. A clock is the list of how long each of its ticks lasts, in millionths of a tick.
use Rattle.std.specs.Prelude.{ℕ, ◌+◌, ◌-◌, ◌≤◌, List, length, All, take, sum, replicate}

-- a tick that lasts a tick, give or take so many millionths
abbrev pub IsTick : ℕ → ℕ → Type 0
IsTick drift tick = (1000000 - drift ≤ tick) × (tick ≤ 1000000 + drift)

-- a clock of at least n ticks, each within the drift
pub record IsClock (drift n : ℕ) (clock : List ℕ) : Type 0 where
  pub long : n ≤ length clock
  pub ticks : All (IsTick drift) clock

-- how long the first n ticks of a clock last
abbrev pub lasted : List ℕ → ℕ → ℕ
lasted clock n = sum (take n clock)

-- the clock of n ticks that are all as long as the drift lets them be
abbrev pub slowest : ℕ → ℕ → List ℕ
slowest drift n = replicate n (1000000 + drift)

-- the clock of n ticks that are all as short as it lets them be
abbrev pub fastest : ℕ → ℕ → List ℕ
fastest drift n = replicate n (1000000 - drift)
