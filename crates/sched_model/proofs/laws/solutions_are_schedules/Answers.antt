use Rattle.sched_model.proofs.Forward.{schedule_from}
use Rattle.sched_model.proofs.laws.solutions_are_schedules.Goals as goal

pub returns : goal.returns
returns c = λ m r p v ok some f solves begin. schedule_from m r p v ok some f solves begin
