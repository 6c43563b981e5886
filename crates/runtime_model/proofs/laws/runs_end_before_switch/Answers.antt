use Rattle.runtime_model.proofs.Switches.{runs_end_before_switch}
use Rattle.runtime_model.proofs.laws.runs_end_before_switch.Goals as goal

pub returns : goal.returns
returns c = runs_end_before_switch
