use Rattle.runtime_model.proofs.Produced.{starts_are_placed}
use Rattle.runtime_model.proofs.laws.starts_are_placed.Goals as goal

pub returns : goal.returns
returns c = starts_are_placed
