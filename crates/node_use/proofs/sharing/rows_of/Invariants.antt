use Rattle.std.proofs.Common.{◌≡◌, ◌++◌, map, drop}
use Rattle.sched_model.specs.PlainMode.{tasks_of}
use Rattle.node_use.specs.Pairs.{row_of}
use Rattle.node_use.proofs.sharing.rows_of.Given as goal

abbrev pub invariant-loop-app : goal.invariant-loop-app
invariant-loop-app l = l.rows.items ++ map row_of (tasks_of l.app-index (drop l.app-index l.apps)) ≡ map row_of (tasks_of 0 l.apps)
