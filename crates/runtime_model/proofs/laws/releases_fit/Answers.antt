use Rattle.runtime_model.proofs.Switches.{releases_fit}
use Rattle.runtime_model.proofs.laws.releases_fit.Goals as goal

pub returns : goal.returns
returns c = releases_fit
