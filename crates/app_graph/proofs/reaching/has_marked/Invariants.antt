use Rattle.std.proofs.Common.{◌≡◌, drop}
use Rattle.std.specs.List.{list_any}
use Rattle.app_graph.specs.Reaching.{is_marked}
use Rattle.app_graph.proofs.reaching.has_marked.Given as goal

abbrev pub invariant-loop-task : goal.invariant-loop-task
invariant-loop-task l = list_any (is_marked l.first l.marks) (drop l.task-index l.tasks) ≡ list_any (is_marked l.first l.marks) l.tasks
