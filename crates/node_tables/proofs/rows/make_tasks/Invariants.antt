use Rattle.std.proofs.Common.{◌≡◌, take}
use Rattle.node_tables.specs.OwnParts.{rows_of}
use Rattle.node_tables.proofs.rows.make_tasks.Given as goal

abbrev pub invariant-loop-app : goal.invariant-loop-app
invariant-loop-app l = l.tasks.items ≡ rows_of (take l.app-index l.apps)
