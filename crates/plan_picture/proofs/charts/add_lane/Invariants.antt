use Rattle.std.proofs.Common.{◌≡◌, ◌++◌}
use Rattle.plan_picture.specs.Picture.{lane}
use Rattle.plan_picture.proofs.charts.add_lane.Given as goal

abbrev pub invariant-loop-row : goal.invariant-loop-row
invariant-loop-row l = l.all.items ++ lane l.lane l.row-iterator.rest.items ≡ l.initial.all.items ++ lane l.initial.lane l.initial.row-iterator.rest.items
