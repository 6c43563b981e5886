use Rattle.std.proofs.Common.{ℕ, ◌<◌}
use Rattle.sched_model.specs.PlainMode.{plain_at}
use Rattle.sched_model.specs.Judged.{NodeShared}
use Rattle.sched_model.proofs.node_clause.nodes_fit.Given as goal

abbrev pub invariant-loop-second : goal.invariant-loop-second
invariant-loop-second l = (j : ℕ) → j < l.second → ((a : ℕ) → a < j → NodeShared (plain_at l.set l.mode) l.s a j)
