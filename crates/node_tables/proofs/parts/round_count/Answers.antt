use Rattle.std.proofs.Common.{length, ap, arith}
use Rattle.runtime_model.proofs.RightSets.{rounds_few}
use Rattle.node_tables.proofs.parts.round_count.Goals as goal

pub overflow_cast-result : goal.overflow_cast-result
overflow_cast-result c =
    let few = rounds_few c.args.set.now c.args.mode c.requires.rules c.requires.mode c.args.schedule.now c.requires.right in
    record { fits = omega (arith, few, ap length c.as_slice.ensures) }

pub returns : goal.returns
returns c =
    let few = rounds_few c.args.set.now c.args.mode c.requires.rules c.requires.mode c.args.schedule.now c.requires.right in
    grind (arith, few)
