use Rattle.std.proofs.Common.{◌≡◌, take}
use Rattle.app_graph.specs.Masks.{mask_of}
use Rattle.app_graph.specs.ValueRules.{among}
use Rattle.app_graph.proofs.cycle_rule.mask.Given as goal

abbrev pub invariant-loop-i : goal.invariant-loop-i
invariant-loop-i l = l.mask ≡ mask_of (λ t. among t.name l.names) (take l.i l.tasks)
