use Rattle.runtime_model.proofs.SlotInputs.{first_copies_are_first}
use Rattle.runtime_model.proofs.laws.first_copies_are_first.Goals as goal

pub returns : goal.returns
returns c = first_copies_are_first
