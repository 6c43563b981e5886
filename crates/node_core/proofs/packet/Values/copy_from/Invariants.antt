use Rattle.std.proofs.Common.{◌≡◌, take}
use Rattle.node_core.proofs.packet.Values.copy_from.Given as goal

-- the values so far
abbrev pub invariant-loop-value : goal.invariant-loop-value
invariant-loop-value l = l.self-inside.items.items ≡ take l.value-index l.value-items
