use Rattle.sched_model.specs.PlainMode.{plain_at}
use Rattle.sched_model.specs.Judged.{NodeShared}
use Rattle.sched_model.proofs.Passing.{passes_one}
use Rattle.sched_model.proofs.node_clause.pairs_fit.Goals as goal

pub loop-first-preserved : goal.loop-first-preserved
loop-first-preserved c =
    passes_one (λ a. NodeShared (plain_at c.args.set.now c.args.mode) c.args.s.now a c.args.second) c.loop-first.first c.pair_fits.result c.pair_fits.ensures c.if-not-pair_fits.false c.loop-first.invariant
