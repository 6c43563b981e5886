use Rattle.std.proofs.Common.{◌≡◌, ◌++◌, take}
use Rattle.std.specs.List.{flat_map, enumerate_from}
use Rattle.plan_picture.specs.Picture.{node_lane}
use Rattle.plan_picture.proofs.charts.add_node_lanes.Given as goal

abbrev pub invariant-loop-at : goal.invariant-loop-at
invariant-loop-at l = l.all.items ≡ l.initial.all.items ++ flat_map (node_lane l.apps l.starts) (take l.at (enumerate_from 0 l.nodes))
