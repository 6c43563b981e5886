use Rattle.std.proofs.Common.{◌≡◌, ◌+◌, ◌++◌, drop}
use Rattle.app_graph.specs.Numbering.{tasks_from}
use Rattle.app_graph.proofs.numbering.number_tasks.Given as goal

abbrev pub invariant-loop-i : goal.invariant-loop-i
invariant-loop-i l = l.numbered.items ++ tasks_from l.nodes (l.first + l.i) (drop l.i l.tasks) ≡ tasks_from l.nodes l.first l.tasks
