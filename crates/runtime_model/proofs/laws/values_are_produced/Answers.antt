use Rattle.runtime_model.proofs.Produced.{values_are_produced}
use Rattle.runtime_model.proofs.laws.values_are_produced.Goals as goal

pub returns : goal.returns
returns c = values_are_produced
