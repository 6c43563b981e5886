use Rattle.node_use.proofs.PlaceLemmas.{pairs_are}
use Rattle.node_use.proofs.laws.pairs_are_decisions.Goals as goal

pub returns : goal.returns
returns c = pairs_are
