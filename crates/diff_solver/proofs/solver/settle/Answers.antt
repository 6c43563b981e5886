use Rattle.std.proofs.Common.{◌∙◌, ap, arith, length, replicate, ⊎_elim, ◌≡◌, ◌+◌, ◌<◌, ◌≤◌}
use Rattle.diff_solver.specs.Causes.{beside}
use Rattle.diff_solver.proofs.Settling.{settling_init, late_leads, high_leads}
use Rattle.diff_solver.proofs.solver.settle.Goals as goal

pub loop-round-init : goal.loop-round-init
loop-round-init c = settling_init c.args.list.now (length c.args.values.now) c.fill.new.self c.fill-2.new.self c.args.causes.now 0 (c.fill.ensures.after (λ _ e. e)) (c.fill-2.ensures.after (λ _ e. e) ∙ ap (λ n. replicate n 0) c.requires.rounds) c.requires.causes

pub close-requires-clause-back : goal.close-requires-clause-back
close-requires-clause-back c = high_leads c.args.list.now (c.loop-round.round + 1) c.sweep.new.values c.sweep.new.rounds c.sweep.new.causes c.sweep.ensures.state c.in-TooHigh.variable c.requires.small c.in-TooHigh.ensures.swept.1 (length c.sweep.new.causes) (omega arith)

pub close-requires-2-clause-back : goal.close-requires-2-clause-back
close-requires-2-clause-back c =
    let n = length c.args.values.now in
    ⊎_elim
    (λ (none : c.loop-round.round ≡ 0). absurd (omega (arith, none)))
    (λ (late : (c.loop-round.last < n) × (c.loop-round.round ≤ beside c.loop-round.rounds c.loop-round.last)).
    late_leads c.args.list.now c.loop-round.round c.loop-round.values c.loop-round.rounds c.loop-round.causes c.loop-round.invariant.state c.loop-round.last (length c.loop-round.causes) (let l = late.1 in omega (arith, l)))
    c.loop-round.invariant.late
