use Rattle.std.proofs.Common.{◌≡◌, replicate, true}
use Rattle.node_core.proofs.registers.InRow.fill.Given as goal

-- so many registers are full, with the packet's values
abbrev pub invariant-loop : goal.invariant-loop
invariant-loop l = record { full : l.self-inside.full.items ≡ replicate l.counter true; values : l.self-inside.values ≡ l.values }
