use Rattle.sched_model.specs.PlainMode.{plain_at}
use Rattle.sched_model.specs.OneHyperperiod.{Lists, EndsInWindow}
use Rattle.sched_model.proofs.Passing.{passes_one}
use Rattle.sched_model.proofs.table_clauses.entries_of.Goals as goal

pub loop-place-preserved : goal.loop-place-preserved
loop-place-preserved c =
    let m = plain_at c.args.set.now c.args.mode in
    passes_one (λ j. Lists m c.args.s.now c.args.window.message j → EndsInWindow m c.args.s.now c.args.window.message j) c.loop-place.place c.entry_fits.result c.entry_fits.ensures c.if-not-entry_fits.false c.loop-place.invariant
