use Rattle.std.proofs.Common.{length, ◌∙◌, ap}
use Rattle.sched_model.specs.declared.links.TaskSet.{TaskSet}
use Rattle.sched_model.specs.TaskGraph.{reaches}
use Rattle.sched_model.proofs.TaskSets.{is_in}
use Rattle.sched_model.proofs.links.TaskSet.has.Goals as goal

pub returns-clause-source : goal.returns-clause-source
returns-clause-source c = λ m b most l e. c.holds.ensures ∙ is_in c.args.self.bits c.args.place (λ a. reaches m a b) (length m.tasks) l most (ap (λ (s : TaskSet). s.bits) e)
