use Rattle.std.proofs.Common.{true, arith}
use Rattle.node_core.proofs.RegisterLemmas.{all_full, same_replicate}
use Rattle.node_core.proofs.registers.InRow.fill.Goals as goal

pub returns : goal.returns
returns c =
    all_full c.args.values.now c.loop.self-inside.values c.loop.self-inside.full.items c.args.count
    (same_replicate c.loop.self-inside.full.items c.loop.counter c.args.count true c.loop.invariant.full (omega arith)) c.loop.invariant.values
