use Rattle.std.proofs.Common.{arith}
use Rattle.std.proofs.lemmas.Int.{to_z-of_z}
use Rattle.node_use.proofs.PlaceLemmas.{quotient_low, quotient_high}
use Rattle.node_use.proofs.places.quotient.Goals as goal

pub returns-clause-low : goal.returns-clause-low
returns-clause-low c = grind (arith, to_z-of_z, quotient_low c.args.a c.args.b c.div_euclid.result 1500000000000 c.requires.divisor c.requires.low)

pub returns-clause-high : goal.returns-clause-high
returns-clause-high c = grind (arith, to_z-of_z, quotient_high c.args.a c.args.b c.div_euclid.result 1500000000000 c.requires.divisor c.requires.high)
