use Rattle.runtime_model.proofs.Switches.{releases_are_one}
use Rattle.runtime_model.proofs.laws.releases_are_one.Goals as goal

pub returns : goal.returns
returns c = releases_are_one
