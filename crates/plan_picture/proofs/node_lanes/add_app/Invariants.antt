use Rattle.std.proofs.Common.{◌≡◌, ◌++◌, length, take}
use Rattle.std.specs.List.{flat_map, zip}
use Rattle.plan_picture.specs.Picture.{run_rows}
use Rattle.plan_picture.proofs.node_lanes.add_app.Given as goal

abbrev pub invariant-loop-task : goal.invariant-loop-task
invariant-loop-task l = l.rows.items ≡ l.initial.rows.items ++ flat_map (run_rows l.node l.period) (take (length l.yielded) (zip l.tasks l.starts))
