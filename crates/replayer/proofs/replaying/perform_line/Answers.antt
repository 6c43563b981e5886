use Rattle.std.proofs.Common.{ap}
use Rattle.replayer.specs.Scripts.{plain_line}
use Rattle.replayer.proofs.LineSteps.{same_line}
use Rattle.replayer.proofs.replaying.perform_line.Goals as goal

pub returns-in-Go-clause-done : goal.returns-in-Go-clause-done
returns-in-Go-clause-done g c = same_line c.advance.result _ _ _ _ (ap plain_line c.in-Go.is) c.advance.ensures.done

pub returns-in-UntilBeacon-clause-done : goal.returns-in-UntilBeacon-clause-done
returns-in-UntilBeacon-clause-done g c = same_line c.advance_to_beacon.result _ _ _ _ (ap plain_line c.in-UntilBeacon.is) c.advance_to_beacon.ensures.done

pub returns-in-Lose-clause-done : goal.returns-in-Lose-clause-done
returns-in-Lose-clause-done g c = same_line c.perform.result _ _ _ _ (ap plain_line c.in-Lose.is) c.perform.ensures.done

pub returns-in-Request-clause-done : goal.returns-in-Request-clause-done
returns-in-Request-clause-done g c = same_line c.perform-in-Request.result _ _ _ _ (ap plain_line c.in-Request.is) c.perform-in-Request.ensures.done

pub returns-in-Restart-clause-done : goal.returns-in-Restart-clause-done
returns-in-Restart-clause-done g c = same_line c.perform-in-Restart.result _ _ _ _ (ap plain_line c.in-Restart.is) c.perform-in-Restart.ensures.done
