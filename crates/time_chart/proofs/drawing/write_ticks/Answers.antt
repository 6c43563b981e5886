use Rattle.time_chart.specs.Drawing.{tick_number}
use Rattle.time_chart.proofs.Pieces.{none_yet, one_more}
use Rattle.time_chart.proofs.drawing.write_ticks.Goals as goal

pub loop-mark-init : goal.loop-mark-init
loop-mark-init c = none_yet (tick_number c.args.hyper c.args.y) c.args.out.now

pub loop-mark-preserved : goal.loop-mark-preserved
loop-mark-preserved c = one_more (tick_number c.args.hyper c.args.y) c.loop-mark.mark c.args.out.now c.loop-mark.out c.write_tick.new.out c.loop-mark.invariant c.in_ok-write_tick.ensures
