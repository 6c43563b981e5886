-- What the two answers say of a list
use Rattle.std.specs.Prelude.{◌≡◌, ℕ, ◌≤◌, List, length}
use Rattle.tick_num.specs.declared.differences.Diff.{Diff}
use Rattle.tick_num.specs.Differences.{LeastValues, NegativeCycle, listed}
use Rattle.diff_solver.specs.declared.solver.Solved.{Solved}
use Rattle.diff_solver.specs.declared.solver.Solved.TheVariants.{Least, Cycle}
use Rattle.diff_solver.specs.Working.{Working}

-- the work has the least values of the n variables, or a negative cycle of one to n constraints
abbrev pub IsAnswer : List Diff → ℕ → Working → Solved → Type 0
IsAnswer ds n work Least = (length work.values ≡ n) × LeastValues ds (listed work.values)
IsAnswer ds n work Cycle = (1 ≤ length work.cycle) × (length work.cycle ≤ n) × NegativeCycle ds work.cycle
