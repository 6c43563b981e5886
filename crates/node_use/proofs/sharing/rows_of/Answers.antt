use Rattle.std.proofs.Common.{◌∙◌, ◌++◌, ap, arith, map}
use Rattle.node_use.proofs.Rows.{rows_step, shown}
use Rattle.node_use.proofs.sharing.rows_of.Goals as goal

pub loop-app-preserved : goal.loop-app-preserved
loop-app-preserved c =
    rows_step c.args.apps.now c.loop-app.app-index c.app-item.result c.loop-app.rows.items c.push_rows.new.rows.items _ (omega arith) c.app-item.is
    (c.in_ok-push_rows.ensures ∙ ap (λ ts. c.loop-app.rows.items ++ map shown ts) c.as_slice.ensures) c.loop-app.invariant
