use Rattle.std.proofs.Common.{◌≡◌, ◌++◌, map}
use Rattle.time_chart.specs.Elements.{svg}
use Rattle.time_chart.specs.Drawing.{below, tick_number}
use Rattle.time_chart.proofs.drawing.write_ticks.Given as goal

abbrev pub invariant-loop-mark : goal.invariant-loop-mark
invariant-loop-mark l = l.out ≡ l.initial.out ++ svg (map (tick_number l.hyper l.y) (below l.mark))
