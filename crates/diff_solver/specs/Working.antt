-- What a work shows: its room, and what the last solved list gave
use Rattle.std.specs.Prelude.{ℕ, List, ℤ}

pub record Working : Type 0 where
  -- room for so many variables and constraints
  pub variables : ℕ
  pub constraints : ℕ
  -- the values by variable, where the list has a solution
  pub values : List ℤ
  -- positions that go round, where it has none
  pub cycle : List ℕ
