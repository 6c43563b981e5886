use Rattle.sched_model.specs.PrintedSchedule.{schedule_of}
use Rattle.sched_model.proofs.Forward.{schedule_of_list, from_zero}
use Rattle.sched_model.proofs.Backward.{full_open, made}
use Rattle.sched_model.proofs.laws.lists_are_schedules.Goals as goal

pub returns : goal.returns
returns c = λ m r ok some. (λ x. ((made m r x.0 ok x.1).0, full_open m r x.0 ok x.1), λ y. (schedule_of m r y.0 (from_zero m r y.0 y.1), schedule_of_list m r y.0 ok some y.1))
