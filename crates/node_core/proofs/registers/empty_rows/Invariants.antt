use Rattle.std.proofs.Common.{◌≡◌, ◌++◌, drop, replicate, []}
use Rattle.node_core.proofs.registers.empty_rows.Given as goal

-- the rows so far are empty, and the rest as they were
abbrev pub invariant-loop-row : goal.invariant-loop-row
invariant-loop-row l = l.row-items ≡ replicate l.row-index [] ++ drop l.row-index l.fn.rows
