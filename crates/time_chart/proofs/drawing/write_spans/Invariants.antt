use Rattle.std.proofs.Common.{◌≡◌, ◌++◌, take}
use Rattle.std.specs.List.{flat_map}
use Rattle.time_chart.specs.Elements.{svg}
use Rattle.time_chart.specs.Drawing.{recurring}
use Rattle.time_chart.proofs.drawing.write_spans.Given as goal

abbrev pub invariant-loop-span : goal.invariant-loop-span
invariant-loop-span l = l.out ≡ l.initial.out ++ svg (flat_map (recurring l.hyper l.y) (take l.span-index l.spans))
