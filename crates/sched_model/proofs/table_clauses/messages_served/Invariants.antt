use Rattle.std.proofs.Common.{ℕ, ◌<◌}
use Rattle.sched_model.specs.PlainMode.{plain_at, message_at, instance_count}
use Rattle.sched_model.specs.RightSchedule.{Exactly}
use Rattle.sched_model.specs.OneHyperperiod.{ServesFirst}
use Rattle.sched_model.proofs.table_clauses.messages_served.Given as goal

abbrev pub invariant-loop-message : goal.invariant-loop-message
invariant-loop-message l = (j : ℕ) → j < l.message → (k : ℕ) → k < instance_count (plain_at l.set l.mode) (message_at (plain_at l.set l.mode) j) → Exactly (message_at (plain_at l.set l.mode) j).copies (ServesFirst (plain_at l.set l.mode) l.s j k)
