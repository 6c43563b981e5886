use Rattle.sched_model.specs.PlainMode.{plain_at}
use Rattle.sched_model.specs.Judged.{TakerFits}
use Rattle.sched_model.proofs.Passing.{passes_one}
use Rattle.sched_model.proofs.message_clause.takers_fit.Goals as goal

pub loop-place-preserved : goal.loop-place-preserved
loop-place-preserved c =
    passes_one (TakerFits (plain_at c.args.set.now c.args.mode) c.args.s.now c.args.window.message) c.loop-place.place c.taker_fits.result c.taker_fits.ensures c.if-not-taker_fits.false c.loop-place.invariant
