use Rattle.sched_model.proofs.LimitedModes.{modes_limited, mode_at_limited}
use Rattle.sched_model.proofs.laws.kept_modes_are_limited.Goals as goal

pub returns : goal.returns
returns c = λ set keeps. (modes_limited set keeps, mode_at_limited set keeps)
