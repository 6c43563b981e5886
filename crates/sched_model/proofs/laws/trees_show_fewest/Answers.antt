use Rattle.sched_model.proofs.Fewer.{rounds_have_room, fewest, no_schedule}
use Rattle.sched_model.proofs.laws.trees_show_fewest.Goals as goal

pub returns : goal.returns
returns c = λ m ok. (λ r s is. rounds_have_room m r s ok is, λ r s is trees. fewest m r ok s is trees, no_schedule m ok)
