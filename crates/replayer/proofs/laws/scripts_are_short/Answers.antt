use Rattle.replayer.proofs.Lengths.{scripts_are_short}
use Rattle.replayer.proofs.laws.scripts_are_short.Goals as goal

pub returns : goal.returns
returns c = scripts_are_short
