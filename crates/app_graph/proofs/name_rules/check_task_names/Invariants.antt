use Rattle.std.proofs.Common.{◌≡◌, [], take, drop}
use Rattle.app_graph.specs.Rules.{each_after}
use Rattle.app_graph.specs.ValueRules.{listed, is_task}
use Rattle.app_graph.proofs.name_rules.check_task_names.Given as goal

abbrev pub invariant-loop-i : goal.invariant-loop-i
invariant-loop-i l = each_after (listed l.key (is_task l.tasks)) (take l.i l.names) (drop l.i l.names) ≡ each_after (listed l.key (is_task l.tasks)) [] l.names
