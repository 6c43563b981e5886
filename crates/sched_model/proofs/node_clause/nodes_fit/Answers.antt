use Rattle.std.proofs.Common.{◌<◌, ℕ}
use Rattle.sched_model.specs.PlainMode.{plain_at}
use Rattle.sched_model.specs.Judged.{NodeShared}
use Rattle.sched_model.proofs.Passing.{passes_one}
use Rattle.sched_model.proofs.node_clause.nodes_fit.Goals as goal

pub loop-second-preserved : goal.loop-second-preserved
loop-second-preserved c =
    passes_one (λ j. (a : ℕ) → a < j → NodeShared (plain_at c.args.set.now c.args.mode) c.args.s.now a j) c.loop-second.second c.pairs_fit.result c.pairs_fit.ensures c.if-not-pairs_fit.false c.loop-second.invariant
