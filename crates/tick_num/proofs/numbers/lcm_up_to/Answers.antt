use Rattle.std.proofs.Common.{arith}
use Rattle.std.proofs.lemmas.Int.{ints}
use Rattle.tick_num.proofs.Multiples.{same_lcm}
use Rattle.tick_num.proofs.numbers.lcm_up_to.Goals as goal

pub returns-in-Some-clause-some : goal.returns-in-Some-clause-some
returns-in-Some-clause-some c = (
  omega (arith, ints, c.in-Some.ensures.some.0, c.in-Some.ensures.some.2),
  same_lcm _ _ _ _ _ _ (omega (arith, ints)) (omega (arith, ints)) (omega (arith, ints, c.in-Some.ensures.some.2)) c.in-Some.ensures.some.1,
  omega (arith, ints, c.in-Some.ensures.some.2),
)

pub returns-in-None-clause-none : goal.returns-in-None-clause-none
returns-in-None-clause-none c = λ l some h.
    let k = c.in-None.ensures.none l some (same_lcm _ _ _ _ _ _ (omega (arith, ints)) (omega (arith, ints)) (omega arith) h) in
    omega (arith, ints, k)
