use Rattle.sched_model.specs.PlainMode.{plain_at}
use Rattle.sched_model.specs.Judged.{RoundEnds}
use Rattle.sched_model.proofs.Passing.{passes_one}
use Rattle.sched_model.proofs.round_clauses.end_in_time.Goals as goal

pub loop-place-preserved : goal.loop-place-preserved
loop-place-preserved c =
    passes_one (RoundEnds (plain_at c.args.set.now c.args.mode) c.args.s.now) c.loop-place.place c.ends_in_time.result c.ends_in_time.ensures c.if-not-ends_in_time.false c.loop-place.invariant
