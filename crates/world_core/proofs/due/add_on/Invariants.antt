use Rattle.std.proofs.Common.{◌≡◌, ◌++◌, take}
use Rattle.world_core.specs.Due.{on_node}
use Rattle.world_core.proofs.due.add_on.Given as goal

abbrev pub invariant-loop-task : goal.invariant-loop-task
invariant-loop-task l = l.ordered.items ≡ l.initial.ordered.items ++ on_node (take l.task-index l.tasks) l.node
