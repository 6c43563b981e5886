use Rattle.std.proofs.Common.{◌≡◌, ◌++◌, Some, map, take}
use Rattle.node_core.proofs.packet.Inputs.push_values.Given as goal

-- the values so far are added
abbrev pub invariant-loop-value : goal.invariant-loop-value
invariant-loop-value l = l.self-inside.items.items ≡ l.initial.self-inside.items.items ++ map (λ x. Some x) (take l.value-index l.values)
