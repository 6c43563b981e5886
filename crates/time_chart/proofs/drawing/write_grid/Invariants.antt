use Rattle.std.proofs.Common.{◌≡◌, ◌++◌, map}
use Rattle.time_chart.specs.Elements.{svg}
use Rattle.time_chart.specs.Drawing.{below, grid_line}
use Rattle.time_chart.proofs.drawing.write_grid.Given as goal

abbrev pub invariant-loop-mark : goal.invariant-loop-mark
invariant-loop-mark l = l.out ≡ l.initial.out ++ svg (map (grid_line l.hyper l.y l.height) (below l.mark))
