use Rattle.std.proofs.Common.{◌≡◌, ◌++◌, map, take}
use Rattle.app_graph.specs.declared.mode_set.Task.{Task}
use Rattle.node_use.proofs.sharing.push_rows.Given as goal

abbrev pub invariant-loop-task : goal.invariant-loop-task
invariant-loop-task l = l.rows.items ≡ l.initial.rows.items ++ map (λ (t : Task). record { number = t.number; node = t.node }) (take l.task-index l.tasks)
