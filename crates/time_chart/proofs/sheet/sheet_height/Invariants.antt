use Rattle.std.proofs.Common.{◌≡◌, ◌+◌, take}
use Rattle.std.specs.Prelude.{sum_by}
use Rattle.time_chart.specs.Drawing.{chart_height}
use Rattle.time_chart.proofs.sheet.sheet_height.Given as goal

abbrev pub invariant-loop-section : goal.invariant-loop-section
invariant-loop-section l = l.height ≡ 48 + sum_by (λ s. chart_height s.chart) (take l.section-index l.sections)
