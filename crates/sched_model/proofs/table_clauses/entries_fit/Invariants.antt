use Rattle.std.proofs.Common.{ℕ, ◌<◌, length}
use Rattle.sched_model.specs.PlainMode.{plain_at}
use Rattle.sched_model.specs.OneHyperperiod.{Lists, EndsInWindow}
use Rattle.sched_model.proofs.table_clauses.entries_fit.Given as goal

abbrev pub invariant-loop-message : goal.invariant-loop-message
invariant-loop-message l = (j : ℕ) → j < l.message → (k : ℕ) → k < length l.s.starts → Lists (plain_at l.set l.mode) l.s j k → EndsInWindow (plain_at l.set l.mode) l.s j k
