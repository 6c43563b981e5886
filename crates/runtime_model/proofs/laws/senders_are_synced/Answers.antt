use Rattle.runtime_model.proofs.Switches.{senders_are_synced}
use Rattle.runtime_model.proofs.laws.senders_are_synced.Goals as goal

pub returns : goal.returns
returns c = senders_are_synced
