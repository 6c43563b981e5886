use Rattle.std.proofs.Common.{ℕ, ◌<◌}
use Rattle.sched_model.specs.PlainMode.{plain_at}
use Rattle.sched_model.specs.OneHyperperiod.{Lists, EndsInWindow}
use Rattle.sched_model.proofs.table_clauses.entries_of.Given as goal

abbrev pub invariant-loop-place : goal.invariant-loop-place
invariant-loop-place l = (j : ℕ) → j < l.place → Lists (plain_at l.set l.mode) l.s l.window.message j → EndsInWindow (plain_at l.set l.mode) l.s l.window.message j
