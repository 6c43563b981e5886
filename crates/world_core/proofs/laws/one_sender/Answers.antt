use Rattle.world_core.proofs.OneSenders.{one_sender}
use Rattle.world_core.proofs.laws.one_sender.Goals as goal

pub returns : goal.returns
returns c = one_sender
