use Rattle.constraint_set.proofs.Tallies.{loads_are}
use Rattle.constraint_set.proofs.laws.loads_are_tallies.Goals as goal

pub returns : goal.returns
returns c = loads_are
