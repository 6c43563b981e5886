use Rattle.round_service.proofs.Numbers.{choices_are}
use Rattle.round_service.proofs.laws.choices_are_decisions.Goals as goal

pub returns : goal.returns
returns c = choices_are
