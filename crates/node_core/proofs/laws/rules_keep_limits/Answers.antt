use Rattle.node_core.proofs.KeptLimits.{kept_by_rules}
use Rattle.node_core.proofs.laws.rules_keep_limits.Goals as goal

pub returns : goal.returns
returns c = kept_by_rules
