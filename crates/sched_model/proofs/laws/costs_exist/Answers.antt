use Rattle.sched_model.proofs.CostsExist.{visited_exists, cost_exists, spent_where, spent_only}
use Rattle.sched_model.proofs.laws.costs_exist.Goals as goal

pub returns : goal.returns
returns c = λ m ok. (visited_exists m ok, cost_exists m ok, λ budget v cost. (λ over. spent_where m ok budget v cost over, λ s. spent_only m ok budget s.0 v s.1 cost))
