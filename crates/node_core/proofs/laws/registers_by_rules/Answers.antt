use Rattle.node_core.proofs.RegisterRules.{registers_by_rules}
use Rattle.node_core.proofs.laws.registers_by_rules.Goals as goal

pub returns : goal.returns
returns c = registers_by_rules
