use Rattle.std.proofs.Common.{rules, length, pos, ◌<ℤ◌, List, Bool, subst, sym}
use Rattle.tick_num.specs.Differences.{listed}
use Rattle.diff_store.specs.Leasts.{at}
use Rattle.diff_store.specs.Causes.{beside}
use Rattle.diff_store.proofs.Marks.{Marking, marking_more}
use Rattle.diff_store.proofs.cycles.mark_chain.Goals as goal

pub loop-step-preserved : goal.loop-step-preserved
loop-step-preserved c =
    let n = length c.args.values.now in
    let ds = c.args.list.now in
    let vs = c.args.values.now in
    let cs = c.args.causes.now in
    let l = c.loop-step in
    let positive : pos 0 <ℤ listed vs l.variable = search rules in
    subst (λ (chain : List Bool). Marking n ds vs cs c.args.x chain (at ds (beside cs l.variable)).x) (sym c.mark-in-loop-step.ensures)
    (marking_more n ds vs cs c.args.x l.chain l.variable l.invariant c.requires.held positive c.requires.range)
