use Rattle.sched_model.proofs.Times.{times}
use Rattle.sched_model.proofs.laws.schedules_have_times.Goals as goal

pub returns : goal.returns
returns c = times
