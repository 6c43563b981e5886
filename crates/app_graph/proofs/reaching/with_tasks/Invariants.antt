use Rattle.std.proofs.Common.{◌≡◌, take}
use Rattle.app_graph.specs.Reaching.{with_tasks}
use Rattle.app_graph.proofs.reaching.with_tasks.Given as goal

abbrev pub invariant-loop-task : goal.invariant-loop-task
invariant-loop-task l = l.marks ≡ with_tasks l.first l.fn.marks (take l.task-index l.tasks)
