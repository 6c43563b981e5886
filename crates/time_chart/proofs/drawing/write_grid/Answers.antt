use Rattle.std.proofs.Common.{◌≡◌, ◌++◌, ℕ, subst}
use Rattle.time_chart.specs.declared.elements.Look.TheVariants.{Grid}
use Rattle.time_chart.specs.Elements.{element_text, shape}
use Rattle.time_chart.specs.Drawing.{grid_line}
use Rattle.time_chart.proofs.Pieces.{none_yet, one_more}
use Rattle.time_chart.proofs.drawing.write_grid.Goals as goal

pub loop-mark-init : goal.loop-mark-init
loop-mark-init c = none_yet (grid_line c.args.hyper c.args.y c.args.height) c.args.out.now

pub loop-mark-preserved : goal.loop-mark-preserved
loop-mark-preserved c = one_more (grid_line c.args.hyper c.args.y c.args.height) c.loop-mark.mark c.args.out.now c.loop-mark.out c.write_shape.new.out c.loop-mark.invariant
    (subst (λ (x : ℕ). c.write_shape.new.out ≡ c.loop-mark.out ++ element_text (shape Grid (record { x = x; y = c.args.y; width = 1; height = c.args.height }))) c.across.ensures.value c.in_ok-write_shape.ensures)
