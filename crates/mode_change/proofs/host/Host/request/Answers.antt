use Rattle.runtime_model.specs.HostCalls.{request_call}
use Rattle.mode_change.proofs.GoingOn.{goes_on}
use Rattle.mode_change.proofs.host.Host.request.Goals as goal

pub returns-clause-stands : goal.returns-clause-stands
returns-clause-stands c = goes_on c.args.self.now c.keep.new.self (request_call c.args.mode) c.requires c.keep.ensures
