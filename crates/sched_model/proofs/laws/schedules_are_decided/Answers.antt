use Rattle.sched_model.proofs.Decided.{decided, keeps_all, one_clause}
use Rattle.sched_model.proofs.laws.schedules_are_decided.Goals as goal

pub returns : goal.returns
returns c = λ m ok s. (λ shape. decided m s ok shape, one_clause m s, λ r is. keeps_all m r s is)
