use Rattle.std.proofs.Common.{arith}
use Rattle.std.proofs.lemmas.Int.{ints}
use Rattle.tick_num.proofs.Multiples.{same_gcd}
use Rattle.tick_num.proofs.numbers.gcd.Goals as goal

pub returns-clause-greatest : goal.returns-clause-greatest
returns-clause-greatest c = same_gcd _ _ _ _ _ _ (omega (arith, ints)) (omega (arith, ints)) (omega (arith, ints)) c.divisor_of.ensures.greatest
