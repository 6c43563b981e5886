use Rattle.std.proofs.Common.{◌≡◌, ◌++◌}
use Rattle.std.specs.List.{flat_map}
use Rattle.time_chart.specs.Elements.{svg}
use Rattle.time_chart.specs.Drawing.{below, lasting, moment}
use Rattle.time_chart.proofs.drawing.write_recurring.Given as goal

abbrev pub invariant-loop-k : goal.invariant-loop-k
invariant-loop-k l = l.out ≡ l.initial.out ++ svg (flat_map (λ k. lasting l.hyper l.y l.span (moment l.hyper l.span k)) (below l.k))
