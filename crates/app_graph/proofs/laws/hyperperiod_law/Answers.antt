use Rattle.app_graph.proofs.Multiples.{law}
use Rattle.app_graph.proofs.laws.hyperperiod_law.Goals as goal

pub returns : goal.returns
returns c = law
