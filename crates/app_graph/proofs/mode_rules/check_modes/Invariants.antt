use Rattle.std.proofs.Common.{◌≡◌, [], take, drop}
use Rattle.app_graph.specs.Rules.{each_after}
use Rattle.app_graph.specs.ValueRules.{mode_values}
use Rattle.app_graph.proofs.mode_rules.check_modes.Given as goal

abbrev pub invariant-loop-i : goal.invariant-loop-i
invariant-loop-i l = each_after (mode_values l.set) (take l.i l.modes) (drop l.i l.modes) ≡ each_after (mode_values l.set) [] l.modes
