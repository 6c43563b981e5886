use Rattle.sched_model.proofs.Fewer.{fewest_leads, none_leads}
use Rattle.sched_model.proofs.laws.fewest_is_first_to_lead.Goals as goal

pub returns : goal.returns
returns c = λ m ok. (λ r some. fewest_leads m r ok some, none_leads m ok)
