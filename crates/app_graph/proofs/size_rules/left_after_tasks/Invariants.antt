use Rattle.std.proofs.Common.{◌≡◌, ◌+◌, ◌++◌, drop}
use Rattle.std.specs.List.{flat_map}
use Rattle.app_graph.specs.ValueRules.{pairs_in}
use Rattle.app_graph.proofs.size_rules.left_after_tasks.Given as goal

abbrev pub invariant-loop-i : goal.invariant-loop-i
invariant-loop-i l =
    l.left + pairs_in (l.tasks ++ flat_map (λ a. a.tasks) l.apps) ≡ l.limit + pairs_in (drop l.i l.tasks ++ flat_map (λ a. a.tasks) l.apps)
