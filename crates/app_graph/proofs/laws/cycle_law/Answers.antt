use Rattle.app_graph.proofs.Levels as levels
use Rattle.app_graph.proofs.laws.cycle_law.Goals as goal

pub returns : goal.returns
returns c = levels.cycle_law
