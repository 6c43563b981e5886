use Rattle.runtime_model.specs.HostCalls.{end_round_call}
use Rattle.mode_change.proofs.GoingOn.{goes_on}
use Rattle.mode_change.proofs.host.Host.end_round.Goals as goal

pub returns-clause-stands : goal.returns-clause-stands
returns-clause-stands c = goes_on c.args.self.now c.leave_round.new.self end_round_call c.requires c.leave_round.ensures
