use Rattle.std.proofs.Common.{◌≡◌, ◌++◌, take, drop}
use Rattle.std.specs.List.{flat_map}
use Rattle.app_graph.specs.Rules.{each_after}
use Rattle.app_graph.specs.ValueRules.{message_values}
use Rattle.app_graph.proofs.message_rules.check_messages.Given as goal

abbrev pub invariant-loop-i : goal.invariant-loop-i
invariant-loop-i l =
    each_after (message_values l.app) (flat_map (λ a. a.messages) l.earlier ++ take l.i l.messages) (drop l.i l.messages)
    ≡ each_after (message_values l.app) (flat_map (λ a. a.messages) l.earlier) l.messages
