use Rattle.runtime_model.proofs.CopyNumbers.{copies_are_near}
use Rattle.runtime_model.proofs.laws.copies_are_near.Goals as goal

pub returns : goal.returns
returns c = copies_are_near
