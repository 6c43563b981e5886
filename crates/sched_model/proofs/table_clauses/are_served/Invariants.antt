use Rattle.std.proofs.Common.{ℕ, ◌-◌, ◌<◌, ◌≤◌}
use Rattle.sched_model.specs.PlainMode.{plain_at, message_at}
use Rattle.sched_model.specs.RightSchedule.{Exactly}
use Rattle.sched_model.specs.OneHyperperiod.{ServesFirst}
use Rattle.sched_model.proofs.table_clauses.are_served.Given as goal

abbrev pub invariant-loop-base : goal.invariant-loop-base
invariant-loop-base l = record {
  most : l.base ≤ l.count;
  served : (k : ℕ) → k < l.base → Exactly (message_at (plain_at l.set l.mode) l.window.message).copies (ServesFirst (plain_at l.set l.mode) l.s l.window.message k);
}

abbrev pub decreases-loop-base : goal.decreases-loop-base
decreases-loop-base l = l.count - l.base
