use Rattle.runtime_model.proofs.HostRounds.{rounds_are_begun}
use Rattle.runtime_model.proofs.laws.rounds_are_begun.Goals as goal

pub returns : goal.returns
returns c = rounds_are_begun
