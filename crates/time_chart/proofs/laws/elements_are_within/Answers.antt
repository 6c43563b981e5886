use Rattle.time_chart.proofs.WithinCanvas.{elements_within}
use Rattle.time_chart.proofs.laws.elements_are_within.Goals as goal

pub returns : goal.returns
returns c = elements_within
