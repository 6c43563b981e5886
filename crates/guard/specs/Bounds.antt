-- The sums that the code computes with. That they are the definitions of Parts is what is proved.
use Rattle.std.specs.Prelude.{◌≡◌, ℕ, ◌+◌, ◌-◌, ◌*◌, ◌<◌, ◌≤◌}
use Rattle.guard.specs.Parts.{part_ticks, part_after}
use Rattle.guard.specs.declared.parts.Round.{Round}

-- slots, ticks and drift are within their ranges
pub record IsLimited (round : Round) : Type 0 where
  pub slots : (1 ≤ round.slots) × (round.slots ≤ 32)
  pub ticks : (1 ≤ round.ticks) × (round.ticks ≤ 1000000000)
  pub drift : (1 ≤ round.drift) × (round.drift ≤ 100000)

-- the guard makes up for the drift of part s and of the next one up to where they meet
abbrev pub MakesUp : Round → ℕ → ℕ → Type 0
MakesUp round guard s = (s + 1) * part_ticks round * round.drift ≤ guard * 1000000

-- of each part and the next
abbrev pub Separates : Round → ℕ → Type 0
Separates round guard = round.slots * part_ticks round * round.drift ≤ guard * 1000000

-- the last part, by the slowest clock, ends before a round is over by the fastest
abbrev pub Clears : Round → ℕ → Type 0
Clears round guard =
    (round.slots + 1) * part_ticks round * (1000000 + round.drift) ≤ guard * (1000000 + round.drift) + round.ticks * (1000000 - round.drift)

-- both
abbrev pub IsEnough : Round → ℕ → Type 0
IsEnough round guard = Separates round guard × Clears round guard

-- the least number of which this holds
pub record IsLeastOf (Holds : ℕ → Type 0) (n : ℕ) : Type 0 where
  pub holds : Holds n
  pub least : (m : ℕ) → Holds m → n ≤ m

-- the first part from which the guard does not part the next one, or else the last part
pub record IsFirstOpen (round : Round) (guard first second : ℕ) : Type 0 where
  pub part : first ≤ round.slots
  pub after : second ≡ part_after round first
  pub separates : (s : ℕ) → s < first → MakesUp round guard s
  pub open_at : first < round.slots → MakesUp round guard first → ⊥
