use Rattle.std.proofs.Common.{◌≡◌, ◌≤◌, [], length, take, drop}
use Rattle.std.specs.List.{flat_map}
use Rattle.app_graph.specs.Rules.{each_after}
use Rattle.app_graph.specs.ValueRules.{app_values}
use Rattle.app_graph.proofs.mode_rules.check_apps.Given as goal

abbrev pub invariant-loop-i : goal.invariant-loop-i
invariant-loop-i l = record {
  rest : each_after (app_values l.set) (take l.i l.apps) (drop l.i l.apps) ≡ each_after (app_values l.set) [] l.apps;
  few : length (flat_map (λ a. a.tasks) (take l.i l.apps)) ≤ 128;
}
