use Rattle.std.proofs.Common.{◌++◌, ◌∙◌, ap, sym, append_assoc, ◌+◌, ◌≡◌, suc, arith, List}
use Rattle.std.specs.List.{flat_map}
use Rattle.sched_model.specs.Numbers.{below}
use Rattle.sched_model.proofs.Lists.{flat_below-suc}
use Rattle.world_core.specs.declared.cycle.Entry.{Entry}
use Rattle.world_core.specs.Cycle.{round_in}
use Rattle.world_core.proofs.cycle.add_rounds.Goals as goal

pub loop-round-preserved : goal.loop-round-preserved
loop-round-preserved c =
    let f = round_in c.args.tick c.args.schedule.now in
    let n = c.loop-round.round in
    c.in_ok-add_round.ensures ∙ ap (λ (x : List Entry). x ++ f n) c.loop-round.invariant
    ∙ append_assoc c.args.entries.now.items (flat_map f (below n)) (f n)
    ∙ ap (λ (x : List Entry). c.args.entries.now.items ++ x) (sym (flat_below-suc f n))
    ∙ ap (λ k. c.args.entries.now.items ++ flat_map f (below k)) (let e : suc n ≡ n + 1 = omega arith in e)
