use Rattle.std.proofs.Common.{ℕ, ◌<◌}
use Rattle.sched_model.specs.PlainMode.{plain_at}
use Rattle.sched_model.specs.RightSchedule.{MessageFits}
use Rattle.sched_model.proofs.message_clause.messages_fit.Given as goal

abbrev pub invariant-loop-message : goal.invariant-loop-message
invariant-loop-message l = (j : ℕ) → j < l.message → MessageFits (plain_at l.set l.mode) l.s j
