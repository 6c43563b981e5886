use Rattle.std.proofs.Common.{refl}
use Rattle.std.proofs.lemmas.Result.{on_ok_weaker, on_err_weaker}
use Rattle.replayer.proofs.EventSteps.{bodies_known, performs, stops, time_known}
use Rattle.replayer.proofs.replaying.perform.Goals as goal

pub step_with-done-requires-clause-time : goal.step_with-done-requires-clause-time
step_with-done-requires-clause-time g c = time_known _ _ c.requires

pub step_with-done-requires-clause-bodies : goal.step_with-done-requires-clause-bodies
step_with-done-requires-clause-bodies g c = bodies_known _ c.args.bodies.now.items _ _ refl c.requires

pub tell-requires : goal.tell-requires
tell-requires g c = c.requires.is_at.room

pub returns-clause-done : goal.returns-clause-done
returns-clause-done g c = record {
  ok = on_ok_weaker c.tell.result (λ puts. performs _ _ c.args.event _ c.step_with-done.ensures.goes_on puts.passed c.tell.ensures.same_names c.tell.ensures.counted c.tell.ensures.room) c.tell.ensures.put.ok;
  err = on_err_weaker c.tell.result (λ added. stops _ _ _ _ c.args.event _ c.step_with-done.ensures.goes_on added) c.tell.ensures.put.err;
}
