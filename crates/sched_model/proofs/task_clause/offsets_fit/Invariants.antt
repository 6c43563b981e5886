use Rattle.std.proofs.Common.{ℕ, ◌<◌}
use Rattle.sched_model.specs.PlainMode.{plain_at}
use Rattle.sched_model.specs.RightSchedule.{OffsetFits}
use Rattle.sched_model.proofs.task_clause.offsets_fit.Given as goal

abbrev pub invariant-loop-place : goal.invariant-loop-place
invariant-loop-place l = (j : ℕ) → j < l.place → OffsetFits (plain_at l.set l.mode) l.s j
