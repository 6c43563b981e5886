use Rattle.std.proofs.Common.{◌≢◌, ◌≤◌, ◌∙◌, ap, suc, rules, arith}
use Rattle.app_graph.specs.Reaching.{after_mode}
use Rattle.app_graph.proofs.Reached.{mode_grows}
use Rattle.app_graph.proofs.reaching.closed.Goals as goal

pub loop-next-smaller : goal.loop-next-smaller
loop-next-smaller c =
    let other : c.loop-next.next ≢ c.loop-next.marks = search rules in
    let grows : c.loop-next.marks ≤ c.loop-next.next = rw c.loop-next.invariant.next (mode_grows c.args.first c.loop-next.marks c.args.mode.now) in
    omega (arith, other, grows, c.loop-next.invariant.fits)

pub loop-next-preserved : goal.loop-next-preserved
loop-next-preserved c = record {
  passes = (suc c.loop-next.invariant.passes.0, c.loop-next.invariant.next ∙ ap (λ k. after_mode c.args.first k c.args.mode.now) c.loop-next.invariant.passes.1);
  next = c.after_mode-next-in-loop-next.ensures;
  fits = search rules;
}
