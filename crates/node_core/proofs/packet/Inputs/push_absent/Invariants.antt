use Rattle.std.proofs.Common.{◌≡◌, ◌++◌, None, replicate}
use Rattle.node_core.proofs.packet.Inputs.push_absent.Given as goal

-- so many absent inputs are added
abbrev pub invariant-loop : goal.invariant-loop
invariant-loop l = l.self-inside.items.items ≡ l.initial.self-inside.items.items ++ replicate l.counter None
