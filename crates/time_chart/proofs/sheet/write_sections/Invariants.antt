use Rattle.std.proofs.Common.{◌≡◌, ◌++◌, drop}
use Rattle.time_chart.specs.Elements.{svg}
use Rattle.time_chart.specs.Drawing.{sections_from}
use Rattle.time_chart.proofs.sheet.write_sections.Given as goal

abbrev pub invariant-loop-section : goal.invariant-loop-section
invariant-loop-section l = l.out ++ svg (sections_from l.top (drop l.section-index l.sections)) ≡ l.initial.out ++ svg (sections_from l.y l.sections)
