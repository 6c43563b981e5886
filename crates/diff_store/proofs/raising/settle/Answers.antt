use Rattle.std.proofs.Common.{List, Bool, length, subst, sym, ap, arith, false}
use Rattle.std.proofs.lemmas.List.{length-set}
use Rattle.tick_num.specs.Differences.{listed}
use Rattle.diff_store.specs.Causes.{beside}
use Rattle.diff_store.specs.Raising.{Raising, NoneWaits}
use Rattle.diff_store.proofs.Settling.{taken, looked_at, settled}
use Rattle.diff_store.proofs.TrailLemmas.{keeps_on}
use Rattle.diff_store.proofs.raising.settle.Goals as goal

pub raise_from-requires-clause-state : goal.raise_from-requires-clause-state
raise_from-requires-clause-state c =
    let ds = c.args.list.now in
    let l = c.loop-variable in
    subst (λ (ws : List Bool). Raising ds l.values l.causes c.args.chain.now ws c.in-Some.variable 0) (sym c.in-Some.ensures.taken)
    (taken ds l.values l.causes c.args.chain.now l.worklist c.in-Some.variable l.invariant.0.state)

pub loop-variable-preserved : goal.loop-variable-preserved
loop-variable-preserved c =
    let l = c.loop-variable in (
      record {
        state = looked_at c.args.list.now c.raise_from.new.values c.raise_from.new.causes c.args.chain.now c.raise_from.new.worklist c.in-Some.variable 0 c.in_default-raise_from.ensures.state;
        waits =
            let a = c.raise_from.ensures.waits in
            let b = ap length c.in-Some.ensures.taken in
            let s = length-set l.worklist c.in-Some.variable false in
            let i = l.invariant.0.waits in
            omega (arith, a, b, s, i);
      },
      keeps_on c.args.trail.now l.trail c.raise_from.new.trail (listed c.args.values.now) (listed l.values) (listed c.raise_from.new.values) (beside c.args.causes.now) (beside l.causes) (beside c.raise_from.new.causes)
          l.invariant.1 c.raise_from.ensures.past,
    )

pub returns-clause-least : goal.returns-clause-least
returns-clause-least c =
    settled c.args.list.now c.loop-variable.values c.loop-variable.causes c.args.chain.now c.loop-variable.worklist
    (subst NoneWaits c.in_default.ensures.same c.in_default.ensures.none) c.loop-variable.invariant.0.state
