use Rattle.std.proofs.Common.{◌≡◌, take}
use Rattle.app_graph.specs.Masks.{back_from}
use Rattle.app_graph.proofs.cycle_rule.back.Given as goal

abbrev pub invariant-loop-link : goal.invariant-loop-link
invariant-loop-link l = l.next ≡ back_from (take l.link-index l.links) l.marked
