use Rattle.app_graph.proofs.Kept.{apps_period}
use Rattle.app_graph.proofs.mode_rules.check_mode.Goals as goal

pub check_sizes-requires-clause-periods : goal.check_sizes-requires-clause-periods
check_sizes-requires-clause-periods c = apps_period c.args.set.now c.args.mode.now.apps c.in_ok-check_apps.ensures
