use Rattle.runtime_model.proofs.CyclesDone.{entries_are_cycles}
use Rattle.runtime_model.proofs.laws.entries_are_cycles.Goals as goal

pub returns : goal.returns
returns c = entries_are_cycles
