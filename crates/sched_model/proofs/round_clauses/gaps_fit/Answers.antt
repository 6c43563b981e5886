use Rattle.std.proofs.Common.{arith, refl}
use Rattle.sched_model.specs.PlainMode.{plain_at}
use Rattle.sched_model.specs.Judged.{GapHolds}
use Rattle.sched_model.proofs.Passing.{passes_one}
use Rattle.sched_model.proofs.round_clauses.gaps_fit.Goals as goal

pub loop-place-preserved : goal.loop-place-preserved
loop-place-preserved c =
    passes_one (GapHolds (plain_at c.args.set.now c.args.mode) c.args.s.now) c.loop-place.place c.gap_holds.result c.gap_holds.ensures c.if-not-gap_holds.false c.loop-place.invariant

pub returns : goal.returns
returns c =
    let n = c.round_count-place-end.ensures in (
      λ e. record {
        within = λ j l. (c.loop-place.invariant j (omega (arith, l, n, c.loop-place-test.false))).next l;
        across = λ j h. (c.loop-place.invariant j (omega (arith, h, n, c.loop-place-test.false))).last h;
      },
      λ r. refl,
    )
