use Rattle.std.proofs.Common.{ℕ, ◌<◌}
use Rattle.sched_model.specs.PlainMode.{plain_at}
use Rattle.std.proofs.Common.{◌≡◌, true}
use Rattle.sched_model.specs.TaskGraph.{last}
use Rattle.sched_model.specs.Judged.{ChainsTo}
use Rattle.sched_model.proofs.chain_clause.chains_fit.Given as goal

abbrev pub invariant-loop-end : goal.invariant-loop-end
invariant-loop-end l = (j : ℕ) → j < l.end → (last (plain_at l.set l.mode) j ≡ true → ChainsTo (plain_at l.set l.mode) l.s j)
