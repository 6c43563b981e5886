use Rattle.std.proofs.Common.{ℕ, ◌<◌}
use Rattle.sched_model.specs.PlainMode.{plain_at}
use Rattle.std.proofs.Common.{◌≡◌, true}
use Rattle.sched_model.specs.TaskGraph.{first, reaches}
use Rattle.sched_model.specs.RightSchedule.{ChainFits}
use Rattle.sched_model.proofs.chain_clause.chains_to.Given as goal

abbrev pub invariant-loop-start : goal.invariant-loop-start
invariant-loop-start l = (j : ℕ) → j < l.start → (first (plain_at l.set l.mode) j ≡ true → reaches (plain_at l.set l.mode) j l.end ≡ true → ChainFits (plain_at l.set l.mode) l.s j l.end)
