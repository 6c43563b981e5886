use Rattle.std.proofs.Common.{◌≡◌, ◌++◌, drop}
use Rattle.plan_picture.specs.Picture.{node_rows}
use Rattle.plan_picture.proofs.node_lanes.add_runs.Given as goal

abbrev pub invariant-loop-app : goal.invariant-loop-app
invariant-loop-app l = l.rows.items ++ node_rows l.node (drop l.app-index l.apps) l.left ≡ l.initial.rows.items ++ node_rows l.node l.apps l.starts
