use Rattle.std.proofs.Common.{refl, ◌∙◌, arith}
use Rattle.replayer.proofs.EventSteps.{writes_later}
use Rattle.replayer.proofs.LineSteps.{advances_done, advances_stop, may_advance, none_yet, not_done, one_advance_more}
use Rattle.replayer.proofs.replaying.advance.Goals as goal

pub loop-init : goal.loop-init
loop-init g c = (none_yet _, omega arith, refl)

pub perform-requires : goal.perform-requires
perform-requires g c = may_advance _ _ c.loop.counter c.args.n c.loop-test.true c.requires c.loop.invariant.0

pub returns-in_err-perform-clause-done : goal.returns-in_err-perform-clause-done
returns-in_err-perform-clause-done g c = not_done c.from_residual.result _ _ _ c.from_residual.ensures.0 (advances_stop _ _ _ c.loop.counter c.args.n c.loop-test.true c.loop.invariant.0 c.in_err-perform.ensures.done.err)

pub returns-in_err-perform-clause-sink : goal.returns-in_err-perform-clause-sink
returns-in_err-perform-clause-sink g c = writes_later c.from_residual.result _ _ _ _ _ _ c.loop.invariant.1 c.loop.invariant.2 c.in_err-perform.ensures.sink.failed c.in_err-perform.ensures.sink.counted c.in_err-perform.ensures.sink.same_flushes

pub loop-preserved : goal.loop-preserved
loop-preserved g c = (
  one_advance_more _ _ _ c.loop.counter c.loop.invariant.0 c.in_ok-perform.ensures.done.ok,
  omega (arith, c.loop.invariant.1, c.in_ok-perform.ensures.sink.counted),
  c.in_ok-perform.ensures.sink.same_flushes ∙ c.loop.invariant.2,
)

pub returns-clause-done : goal.returns-clause-done
returns-clause-done g c = record { ok = advances_done _ _ c.loop.counter c.args.n c.loop-test.false c.loop.auto.counter-end c.loop.invariant.0; err = tt }

pub returns-clause-sink : goal.returns-clause-sink
returns-clause-sink g c = record { failed = tt; counted = c.loop.invariant.1; same_flushes = c.loop.invariant.2 }
