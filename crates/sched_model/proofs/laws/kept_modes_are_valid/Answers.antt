use Rattle.sched_model.proofs.KeptSets.{modes_valid, mode_at_valid}
use Rattle.sched_model.proofs.laws.kept_modes_are_valid.Goals as goal

pub returns : goal.returns
returns c = λ set keeps. (modes_valid set keeps, mode_at_valid set keeps)
