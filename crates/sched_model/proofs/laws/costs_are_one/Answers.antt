use Rattle.sched_model.proofs.Costs.{visited_one, cost_one, spent_at_one}
use Rattle.sched_model.proofs.laws.costs_are_one.Goals as goal

pub returns : goal.returns
returns c = λ m. (visited_one m, cost_one m, spent_at_one m)
