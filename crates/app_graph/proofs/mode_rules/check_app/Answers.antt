use Rattle.std.proofs.Common.{arith}
use Rattle.std.specs.List.{flat_map}
use Rattle.app_graph.proofs.Kept.{tasks_fit}
use Rattle.app_graph.proofs.mode_rules.check_app.Goals as goal

pub check_graph-requires : goal.check_graph-requires
check_graph-requires c =
    omega (arith, tasks_fit c.args.set.now c.args.app.now (flat_map (λ a. a.tasks) c.args.earlier.now) c.requires c.in_ok-check_tasks.ensures)
