-- What drift asks of a mode set
use Rattle.std.specs.Prelude.{◌≡◌, ℕ, ◌-◌, ◌*◌, ◌<◌, ◌≤◌, IfSome, IfNone, pos, unsigned_abs}
use Rattle.app_graph.specs.declared.mode_set.ModeSet.{ModeSet}
use Rattle.guard.specs.Parts.{part_ticks, Apart, IsFirstOverlap}
use Rattle.guard.specs.Waking.{IsLeastWake}
use Rattle.guard.specs.declared.parts.Round.{Round}
use Rattle.guard.specs.declared.guards.LeastGuard.{LeastGuard}
use Rattle.guard.specs.declared.guards.Guard.{Guard}

-- a round of the set, with clocks of this drift
abbrev pub round_of : ModeSet → ℕ → Round
round_of set drift = record { slots = set.slots; ticks = unsigned_abs set.round; drift = drift }

-- a part has room for the guard on both sides, and no part overlaps another under it
pub record Keeps (round : Round) (guard : ℕ) : Type 0 where
  pub room : 2 * guard < part_ticks round
  pub apart : Apart round guard

-- the least such guard, and the first two parts that overlap under one tick less
pub record IsLeastGuard (round : Round) (guard : LeastGuard) : Type 0 where
  pub ticks : ℕ
  pub is : guard.ticks ≡ pos ticks
  pub some : 1 ≤ ticks
  pub keeps : Keeps round ticks
  pub least : (y : ℕ) → Keeps round y → ticks ≤ y
  pub breaks : IsFirstOverlap round (ticks - 1) guard.first guard.second

-- what is answered for a round and a gap
pub record IsGuard (round : Round) (gap : ℕ) (answer : Guard) : Type 0 where
  pub part : answer.part ≡ pos (part_ticks round)
  pub some : IfSome answer.guard (IsLeastGuard round)
  pub none : IfNone answer.guard ((y : ℕ) → Keeps round y → ⊥)
  pub early : ℕ
  pub is : answer.wake ≡ pos early
  pub wake : IsLeastWake gap round.drift early
