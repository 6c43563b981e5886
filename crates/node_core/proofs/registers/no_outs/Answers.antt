use Rattle.std.proofs.Common.{arith}
use Rattle.node_core.proofs.RegisterLemmas.{outs_are}
use Rattle.node_core.proofs.registers.no_outs.Goals as goal

pub returns : goal.returns
returns c = outs_are c.loop.outs.items c.loop.counter c.loop.invariant (omega arith)
