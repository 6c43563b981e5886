use Rattle.std.proofs.Common.{◌≡◌, drop, nat_le}
use Rattle.app_graph.specs.declared.faults.GraphFault.TheVariants.{TooMany}
use Rattle.app_graph.specs.declared.keys.Key.TheVariants.{KInputs}
use Rattle.app_graph.specs.Rules.{each, unless}
use Rattle.app_graph.specs.ValueRules.{inputs_of}
use Rattle.app_graph.proofs.message_rules.check_inputs.Given as goal

abbrev pub invariant-loop-task : goal.invariant-loop-task
invariant-loop-task l =
    each (λ t. unless (nat_le (inputs_of l.app t) 64) (TooMany KInputs)) (drop l.task-index l.task-items)
    ≡ each (λ t. unless (nat_le (inputs_of l.app t) 64) (TooMany KInputs)) l.task-items
