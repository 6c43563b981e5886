use Rattle.std.proofs.Common.{arith}
use Rattle.sched_model.proofs.RowPlaces.{found_at, found_past, count_past}
use Rattle.sched_model.proofs.rows.place_of.Goals as goal

pub returns-then-index-tasks : goal.returns-then-index-tasks
returns-then-index-tasks c =
    let k = c.index_of-index.ensures.value in
    let f = found_at c.args.apps.now c.loop-app.app-index c.app-item.result c.as_slice-tasks.result.now c.args.number (omega arith) c.app-item.is c.as_slice-tasks.ensures (omega (arith, k, c.if-index-tasks.true)) in
    omega (arith, f, k, c.loop-app.invariant.same)

pub loop-app-preserved : goal.loop-app-preserved
loop-app-preserved c =
    let k = c.index_of-index.ensures.value in
    let f = found_past c.args.apps.now c.loop-app.app-index c.app-item.result c.as_slice-tasks.result.now c.args.number (omega arith) c.app-item.is c.as_slice-tasks.ensures (omega (arith, k, c.if-index-tasks.false)) in
    let n = count_past c.args.apps.now c.loop-app.app-index c.app-item.result c.as_slice-tasks.result.now (omega arith) c.app-item.is c.as_slice-tasks.ensures in
    record { count = omega (arith, n, c.loop-app.invariant.count); same = omega (arith, f, c.loop-app.invariant.same) }
