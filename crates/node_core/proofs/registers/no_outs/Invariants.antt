use Rattle.std.proofs.Common.{◌≡◌, replicate, None}
use Rattle.node_core.proofs.registers.no_outs.Given as goal

-- the registers so far
abbrev pub invariant-loop : goal.invariant-loop
invariant-loop l = l.outs.items ≡ replicate l.counter None
