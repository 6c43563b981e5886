use Rattle.std.proofs.Common.{subst}
use Rattle.app_graph.specs.Checks.{Checks}
use Rattle.app_graph.specs.ValueRules.{sizes_at}
use Rattle.app_graph.proofs.size_rules.check_sizes.Goals as goal

pub returns-in-Some : goal.returns-in-Some
returns-in-Some c = subst (λ h. Checks c.check_sizes_at.result (sizes_at h c.args.set.now c.args.mode.now)) c.in-Some.ensures.0 c.check_sizes_at.ensures
