use Rattle.std.proofs.Common.{◌≡◌, ◌+◌, drop}
use Rattle.std.specs.List.{flat_map}
use Rattle.app_graph.specs.ValueRules.{pairs_in}
use Rattle.app_graph.proofs.size_rules.left_after_pairs.Given as goal

abbrev pub invariant-loop-i : goal.invariant-loop-i
invariant-loop-i l =
    l.left + pairs_in (flat_map (λ a. a.tasks) l.apps) ≡ l.limit + pairs_in (flat_map (λ a. a.tasks) (drop l.i l.apps))
