use Rattle.std.proofs.Common.{◌≡◌}
use Rattle.world_core.specs.Due.{in_order}
use Rattle.world_core.proofs.due.by_node.Given as goal

abbrev pub invariant-loop-node : goal.invariant-loop-node
invariant-loop-node l = l.ordered.items ≡ in_order l.tasks l.node
