use Rattle.std.proofs.Common.{◌≡◌, ◌++◌, take, map}
use Rattle.node_tables.specs.OwnParts.{row_in}
use Rattle.node_tables.proofs.rows.add_tasks.Given as goal

abbrev pub invariant-loop-task : goal.invariant-loop-task
invariant-loop-task l = l.tasks.items ≡ l.initial.tasks.items ++ map (row_in l.app) (take l.task-index l.task-items)
