use Rattle.round_service.proofs.Loads.{loads_are}
use Rattle.round_service.proofs.laws.loads_are_counts.Goals as goal

pub returns : goal.returns
returns c = loads_are
