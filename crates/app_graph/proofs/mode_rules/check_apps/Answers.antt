use Rattle.std.proofs.Common.{take, refl, arith}
use Rattle.app_graph.specs.ValueRules.{app_values}
use Rattle.app_graph.proofs.Joined.{length_flat_more}
use Rattle.app_graph.proofs.Kept.{app_tasks}
use Rattle.app_graph.proofs.Walks.{next_kept}
use Rattle.app_graph.proofs.mode_rules.check_apps.Goals as goal

pub loop-i-preserved : goal.loop-i-preserved
loop-i-preserved c =
    let apps = c.as_slice-apps.result.now in
    let i = c.loop-i.i in
    let app = c.index-apps-i.result in
    record {
      rest = next_kept (app_values c.args.set.now) apps i (take i apps) app c.loop-i-test.true refl c.index-apps-i.is c.in_ok-check_app.ensures c.loop-i.invariant.rest;
      few = omega (
        arith,
        length_flat_more (λ a. a.tasks) apps i app c.loop-i-test.true c.index-apps-i.is,
        app_tasks c.args.set.now (take i apps) app c.in_ok-check_app.ensures c.loop-i.invariant.few,
      );
    }
