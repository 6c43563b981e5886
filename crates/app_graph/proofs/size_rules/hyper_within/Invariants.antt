use Rattle.std.proofs.Common.{◌≡◌, ◌<◌, ◌≤◌, drop, map, unsigned_abs}
use Rattle.std.specs.List.{fold}
use Rattle.app_graph.specs.Hyperperiod.{lcm}
use Rattle.app_graph.proofs.size_rules.hyper_within.Given as goal

abbrev pub invariant-loop-app : goal.invariant-loop-app
invariant-loop-app l = record {
  some : 0 < l.hyper;
  most : l.hyper ≤ 1000000000000;
  rest : fold lcm l.hyper (map (λ a. unsigned_abs a.period) (drop l.app-index l.app-items)) ≡ fold lcm 1 (map (λ a. unsigned_abs a.period) l.app-items);
}
