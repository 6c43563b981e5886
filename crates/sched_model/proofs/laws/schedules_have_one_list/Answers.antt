use Rattle.sched_model.proofs.Backward.{full_open, made}
use Rattle.sched_model.proofs.OneList.{has_list, one_list}
use Rattle.sched_model.proofs.laws.schedules_have_one_list.Goals as goal

pub returns : goal.returns
returns c = λ m r s ok is. ((made m r s ok is).0, full_open m r s ok is, has_list m r s ok is, λ q h. one_list m r s ok is q (made m r s ok is).0 h (has_list m r s ok is))
