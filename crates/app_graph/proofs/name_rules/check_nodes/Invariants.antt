use Rattle.std.proofs.Common.{◌≡◌, [], true, take, drop}
use Rattle.app_graph.specs.declared.keys.Key.TheVariants.{KNodes}
use Rattle.app_graph.specs.Rules.{each_after}
use Rattle.app_graph.specs.ValueRules.{listed}
use Rattle.app_graph.proofs.name_rules.check_nodes.Given as goal

abbrev pub invariant-loop-i : goal.invariant-loop-i
invariant-loop-i l = each_after (listed KNodes (λ n. true)) (take l.i l.nodes) (drop l.i l.nodes) ≡ each_after (listed KNodes (λ n. true)) [] l.nodes
