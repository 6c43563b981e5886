use Rattle.sched_model.specs.PlainMode.{plain_at}
use Rattle.sched_model.specs.Judged.{SenderFits}
use Rattle.sched_model.proofs.Passing.{passes_one}
use Rattle.sched_model.proofs.message_clause.senders_fit.Goals as goal

pub loop-place-preserved : goal.loop-place-preserved
loop-place-preserved c =
    passes_one (SenderFits (plain_at c.args.set.now c.args.mode) c.args.s.now c.args.window.message) c.loop-place.place c.sender_fits.result c.sender_fits.ensures c.if-not-sender_fits.false c.loop-place.invariant
