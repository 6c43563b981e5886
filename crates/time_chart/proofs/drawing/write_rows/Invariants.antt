use Rattle.std.proofs.Common.{◌≡◌, ◌++◌, drop}
use Rattle.time_chart.specs.Elements.{svg}
use Rattle.time_chart.specs.Drawing.{rows_from}
use Rattle.time_chart.proofs.drawing.write_rows.Given as goal

abbrev pub invariant-loop-row : goal.invariant-loop-row
invariant-loop-row l = l.out ++ svg (rows_from l.hyper l.top (drop l.row-index l.rows)) ≡ l.initial.out ++ svg (rows_from l.hyper l.y l.rows)
