-- What a store shows: its room, and the constraints that were pushed
use Rattle.std.specs.Prelude.{ℕ, List}
use Rattle.tick_num.specs.declared.differences.Diff.{Diff}

pub record Storing : Type 0 where
  -- so many variables, and room for so many constraints
  pub variables : ℕ
  pub constraints : ℕ
  -- the constraints, the last pushed last
  pub list : List Diff
