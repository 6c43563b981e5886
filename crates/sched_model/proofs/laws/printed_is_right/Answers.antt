use Rattle.sched_model.proofs.Leasts.{printed_right, printed_one}
use Rattle.sched_model.proofs.laws.printed_is_right.Goals as goal

pub returns : goal.returns
returns c = λ m r. (printed_right m r, printed_one m r)
