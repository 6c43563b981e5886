use Rattle.std.proofs.Common.{◌≡◌, replicate, []}
use Rattle.node_core.proofs.registers.no_rows.Given as goal

-- the rows so far
abbrev pub invariant-loop : goal.invariant-loop
invariant-loop l = l.rows.items ≡ replicate l.counter []
