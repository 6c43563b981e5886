use Rattle.std.proofs.Common.{arith}
use Rattle.std.proofs.lemmas.Int.{to_z-of_z}
use Rattle.tick_num.proofs.Floor.{floor_low, floor_high}
use Rattle.tick_num.proofs.numbers.floor_div.Goals as goal

pub returns-clause-low : goal.returns-clause-low
returns-clause-low c = grind (arith, to_z-of_z, floor_low c.args.a c.args.b c.div_euclid.result c.requires)

pub returns-clause-high : goal.returns-clause-high
returns-clause-high c = grind (arith, to_z-of_z, floor_high c.args.a c.args.b c.div_euclid.result c.requires)
