use Rattle.std.proofs.Common.{refl, ◌∙◌, arith, true, false}
use Rattle.replayer.proofs.EventSteps.{writes_later}
use Rattle.replayer.proofs.LineSteps.{may_wait, not_done, told_is, wait_ends, wait_over, wait_stops, waits_more, waits_none}
use Rattle.replayer.proofs.replaying.advance_to_beacon.Goals as goal

pub loop-init : goal.loop-init
loop-init g c = (waits_none _, omega arith, refl)

pub returns-then-beacon_next-clause-done : goal.returns-then-beacon_next-clause-done
returns-then-beacon_next-clause-done g c = record { ok = wait_over _ _ c.loop.counter c.loop.invariant.0 (told_is _ _ true c.beacon_next.ensures c.if-beacon_next.true); err = tt }

pub returns-then-beacon_next-clause-sink : goal.returns-then-beacon_next-clause-sink
returns-then-beacon_next-clause-sink g c = record { failed = tt; counted = c.loop.invariant.1; same_flushes = c.loop.invariant.2 }

pub perform-requires : goal.perform-requires
perform-requires g c = may_wait _ _ c.loop.counter c.requires c.loop.invariant.0 (told_is _ _ false c.beacon_next.ensures c.if-beacon_next.false)

pub returns-in_err-perform-clause-done : goal.returns-in_err-perform-clause-done
returns-in_err-perform-clause-done g c =
    not_done c.from_residual.result _ _ _ c.from_residual.ensures.0 (wait_stops _ _ _ c.loop.counter c.loop.invariant.0 (told_is _ _ false c.beacon_next.ensures c.if-beacon_next.false) c.in_err-perform.ensures.done.err)

pub returns-in_err-perform-clause-sink : goal.returns-in_err-perform-clause-sink
returns-in_err-perform-clause-sink g c = writes_later c.from_residual.result _ _ _ _ _ _ c.loop.invariant.1 c.loop.invariant.2 c.in_err-perform.ensures.sink.failed c.in_err-perform.ensures.sink.counted c.in_err-perform.ensures.sink.same_flushes

pub loop-preserved : goal.loop-preserved
loop-preserved g c = (
  waits_more _ _ _ c.loop.counter c.loop.invariant.0 (told_is _ _ false c.beacon_next.ensures c.if-beacon_next.false) c.in_ok-perform.ensures.done.ok,
  omega (arith, c.loop.invariant.1, c.in_ok-perform.ensures.sink.counted),
  c.in_ok-perform.ensures.sink.same_flushes ∙ c.loop.invariant.2,
)

pub returns-clause-done : goal.returns-clause-done
returns-clause-done g c = record { ok = wait_ends _ _ c.loop.counter (omega (arith, c.loop-test.false)) c.loop.invariant.0; err = tt }

pub returns-clause-sink : goal.returns-clause-sink
returns-clause-sink g c = record { failed = tt; counted = c.loop.invariant.1; same_flushes = c.loop.invariant.2 }
