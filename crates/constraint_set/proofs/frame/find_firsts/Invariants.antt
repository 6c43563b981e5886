use Rattle.std.proofs.Common.{◌≡◌, map}
use Rattle.sched_model.specs.Numbers.{below}
use Rattle.sched_model.specs.TaskGraph.{first}
use Rattle.constraint_set.proofs.frame.find_firsts.Given as goal

abbrev pub invariant-loop-task : goal.invariant-loop-task
invariant-loop-task l = l.firsts.items ≡ map (first l.mode) (below l.task)
