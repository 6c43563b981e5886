-- How large a problem may be, as the solver needs to know
use Rattle.std.specs.Prelude.{ℕ, ◌≤◌, List, length, All, ℤ, pos, neg_ℤ, ◌≤ℤ◌}
use Rattle.tick_num.specs.declared.differences.Diff.{Diff}
use Rattle.tick_num.specs.Differences.{InRange}
use Rattle.sched_model.specs.PlainMode.{PlainMode}
use Rattle.sched_model.specs.ConstraintProblem.{vars, decisions, in_force}
use Rattle.sched_model.specs.OpenPrefix.{Chosen}

-- the bound of the constraint is within 10,000,000,000,000 of zero
abbrev pub IsSmall : Diff → Type 0
IsSmall d = (neg_ℤ (pos 10000000000000) ≤ℤ d.c) × (d.c ≤ℤ pos 10000000000000)

-- at most 512 variables, at most 65,536 constraints in force, all of them over the variables and with small bounds
pub record ProblemFits (m : PlainMode) (r : ℕ) : Type 0 where
  pub variables : vars m r ≤ 512
  pub in_range : (p : List ℤ) → InRange (vars m r) (in_force m r p)
  pub small : (p : List ℤ) → length p ≤ length (decisions m) → Chosen m r p → All IsSmall (in_force m r p)
  pub few : (p : List ℤ) → length (in_force m r p) ≤ 65536
