use Rattle.sched_model.proofs.FirstLists.{first_one}
use Rattle.sched_model.proofs.laws.first_list_is_one.Goals as goal

pub returns : goal.returns
returns c = first_one
