-- The parts of a round, and when none overlaps another
use Rattle.std.specs.Prelude.{◌≡◌, ℕ, zero, suc, ◌+◌, ◌-◌, ◌*◌, ◌/◌, ◌<◌, ◌≤◌, nat_lt, List, if◌then◌else◌}
use Rattle.guard.specs.Clocks.{IsClock, lasted, slowest, fastest}
use Rattle.guard.specs.declared.parts.Round.{Round}

-- a round is cut into parts of as many ticks: part 0 is the beacon, and parts 1, 2, .. are the slots
abbrev pub part_ticks : Round → ℕ
part_ticks round = round.ticks / (round.slots + 1)

-- the tick at which a part begins: the beacon begins the round, and a slot begins when the guard is over
abbrev pub first_tick : Round → ℕ → ℕ → ℕ
first_tick round guard zero = 0
first_tick round guard (suc s) = suc s * part_ticks round + guard

-- the tick at which a part ends: the guard comes after it
abbrev pub last_tick : Round → ℕ → ℕ → ℕ
last_tick round guard s = (s + 1) * part_ticks round - guard

-- when part s begins and when it ends, where part s goes by the s-th of these clocks, which all count from the beacon on
abbrev pub begins : Round → ℕ → (ℕ → List ℕ) → ℕ → ℕ
begins round guard clocks s = lasted (clocks s) (first_tick round guard s)

abbrev pub ends : Round → ℕ → (ℕ → List ℕ) → ℕ → ℕ
ends round guard clocks s = lasted (clocks s) (last_tick round guard s)

-- with these clocks no part overlaps a later one, or the next round's beacon, which begins d ticks of the host's clock after this one
pub record InTurn (round : Round) (guard : ℕ) (clocks : ℕ → List ℕ) (d : ℕ) : Type 0 where
  pub parts : (s t : ℕ) → s < t → t ≤ round.slots → ends round guard clocks s ≤ begins round guard clocks t
  pub beacon : (s : ℕ) → s ≤ round.slots → ends round guard clocks s ≤ lasted (clocks 0) d

-- whatever the clock of each part is, part 0's being the host's, and whenever the next round's beacon comes, but not before the round is
-- over. No part ends after tick d, so d ticks of each clock are as many as are counted
abbrev pub Apart : Round → ℕ → Type 0
Apart round guard =
    (clocks : ℕ → List ℕ) (d : ℕ) → round.ticks ≤ d → ((s : ℕ) → s ≤ round.slots → IsClock round.drift d (clocks s)) → InTurn round guard clocks d

-- ---- parts that overlap

-- what comes after a part: the next one, or the next round's beacon, which is named 0
abbrev pub part_after : Round → ℕ → ℕ
part_after round s = if nat_lt s round.slots then s + 1 else 0

-- the tick at which that begins, where the next round comes at once
abbrev pub tick_after : Round → ℕ → ℕ → ℕ
tick_after round guard s = if nat_lt s round.slots then first_tick round guard (s + 1) else round.ticks

-- with the slowest clock for part s and the fastest for what comes after it, that begins before part s has ended
abbrev pub Overlaps : Round → ℕ → ℕ → Type 0
Overlaps round guard s =
    lasted (fastest round.drift round.ticks) (tick_after round guard s) < lasted (slowest round.drift round.ticks) (last_tick round guard s)

-- the first part that overlaps what comes after it, which is this one
pub record IsFirstOverlap (round : Round) (guard first second : ℕ) : Type 0 where
  pub part : first ≤ round.slots
  pub after : second ≡ part_after round first
  pub overlaps : Overlaps round guard first
  pub earlier : (s : ℕ) → s < first → Overlaps round guard s → ⊥
