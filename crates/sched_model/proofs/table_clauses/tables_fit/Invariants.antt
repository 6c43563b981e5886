use Rattle.std.proofs.Common.{ℕ, ◌<◌, get_or, []}
use Rattle.sched_model.specs.PlainMode.{plain_at}
use Rattle.sched_model.specs.RightSchedule.{TableFits}
use Rattle.sched_model.proofs.table_clauses.tables_fit.Given as goal

abbrev pub invariant-loop-place : goal.invariant-loop-place
invariant-loop-place l = (j : ℕ) → j < l.place → TableFits (plain_at l.set l.mode) (get_or l.s.tables j [])
