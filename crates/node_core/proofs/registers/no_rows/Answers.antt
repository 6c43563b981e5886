use Rattle.std.proofs.Common.{arith}
use Rattle.node_core.proofs.RegisterLemmas.{ins_are}
use Rattle.node_core.proofs.registers.no_rows.Goals as goal

pub returns : goal.returns
returns c = ins_are c.loop.rows.items c.loop.counter c.loop.invariant (omega arith)
