use Rattle.std.proofs.Common.{arith}
use Rattle.tick_num.proofs.Multiples.{multiple_is_least, same_multiple, least_is}
use Rattle.tick_num.proofs.numbers.multiple_of.Goals as goal

pub returns-in-Some-clause-some : goal.returns-in-Some-clause-some
returns-in-Some-clause-some c =
    let least = multiple_is_least c.args.a c.args.b c.divisor_of.result c.requires.first c.requires.second c.divisor_of.ensures.greatest in
    let whole = least_is c.args.a c.args.b _ c.in-Some.l c.requires.first c.requires.second (omega (arith, c.in-Some.ensures)) least in
    (whole.0, whole.1, c.if-l-max.true)

pub returns-in_default-clause-none : goal.returns-in_default-clause-none
returns-in_default-clause-none c = λ l some h.
    let least = multiple_is_least c.args.a c.args.b c.divisor_of.result c.requires.first c.requires.second c.divisor_of.ensures.greatest in
    let e = same_multiple c.args.a c.args.b _ _ h least in
    omega (arith, c.in-Some.ensures)

pub returns-in_default-2-clause-none : goal.returns-in_default-2-clause-none
returns-in_default-2-clause-none c = λ l some h.
    let least = multiple_is_least c.args.a c.args.b c.divisor_of.result c.requires.first c.requires.second c.divisor_of.ensures.greatest in
    let e = same_multiple c.args.a c.args.b _ _ h least in
    omega (arith, c.in_default.ensures)
