use Rattle.runtime_model.proofs.Arrivals.{nothing_is_missing}
use Rattle.runtime_model.proofs.laws.nothing_is_missing.Goals as goal

pub returns : goal.returns
returns c = nothing_is_missing
