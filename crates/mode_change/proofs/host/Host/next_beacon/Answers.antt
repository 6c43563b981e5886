use Rattle.runtime_model.specs.HostCalls.{next_beacon_call}
use Rattle.mode_change.proofs.GoingOn.{goes_on}
use Rattle.mode_change.proofs.host.Host.next_beacon.Goals as goal

pub returns-clause-stands : goal.returns-clause-stands
returns-clause-stands c = goes_on c.args.self.now c.begin_round.new.self next_beacon_call c.requires c.begin_round.ensures
