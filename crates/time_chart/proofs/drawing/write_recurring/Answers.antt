use Rattle.std.proofs.Common.{◌≡◌, ◌++◌, ℕ, subst}
use Rattle.time_chart.specs.Drawing.{lasting, moment}
use Rattle.time_chart.specs.Elements.{svg}
use Rattle.time_chart.proofs.Pieces.{no_list_yet, list_more}
use Rattle.time_chart.proofs.drawing.write_recurring.Goals as goal

pub loop-k-init : goal.loop-k-init
loop-k-init c = no_list_yet (λ k. lasting c.args.hyper c.args.y c.args.span.now (moment c.args.hyper c.args.span.now k)) c.args.out.now

pub loop-k-preserved : goal.loop-k-preserved
loop-k-preserved c =
    list_more (λ k. lasting c.args.hyper c.args.y c.args.span.now (moment c.args.hyper c.args.span.now k)) c.loop-k.k c.args.out.now c.loop-k.out c.write_lasting.new.out c.loop-k.invariant
    (subst (λ (m : ℕ). c.write_lasting.new.out ≡ c.loop-k.out ++ svg (lasting c.args.hyper c.args.y c.args.span.now m)) c.moment.ensures.value c.in_ok-write_lasting.ensures)
