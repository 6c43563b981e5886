use Rattle.std.proofs.Common.{ℕ, ◌<◌}
use Rattle.sched_model.specs.PlainMode.{plain_at}
use Rattle.sched_model.specs.Judged.{NodeShared}
use Rattle.sched_model.proofs.node_clause.pairs_fit.Given as goal

abbrev pub invariant-loop-first : goal.invariant-loop-first
invariant-loop-first l = (j : ℕ) → j < l.first → NodeShared (plain_at l.set l.mode) l.s j l.second
