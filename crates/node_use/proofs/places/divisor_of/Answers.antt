use Rattle.std.proofs.Common.{rules, arith, ◌≡◌, ◌≤◌, ◌∙◌, w64, pos, to_z, of_z, FitsSigned}
use Rattle.std.proofs.lemmas.Int.{ints, to_z-of_z, to_z_pos}
use Rattle.sched_model.specs.Numbers.{gcd}
use Rattle.sched_model.proofs.Pairs.{gcd_some}
use Rattle.node_use.proofs.PlaceLemmas.{same_gcd, gcd_most}
use Rattle.node_use.proofs.places.divisor_of.Goals as goal

pub returns : goal.returns
returns c =
    let fits : FitsSigned w64 c.gcd.result = search rules in
    let a : 1 ≤ c.args.first.period = omega arith in
    let b : 1 ≤ c.args.second.period = omega arith in
    let e : to_z w64 (of_z w64 c.gcd.result) ≡ pos (gcd c.args.first.period c.args.second.period) =
    to_z-of_z w64 c.gcd.result fits ∙ same_gcd (to_z w64 c.args.first.period) (to_z w64 c.args.second.period) c.gcd.result c.args.first.period c.args.second.period
    (to_z_pos w64 c.args.first.period (omega arith)) (to_z_pos w64 c.args.second.period (omega arith)) a b c.gcd.ensures.positive c.gcd.ensures.greatest in
    let some = gcd_some c.args.first.period c.args.second.period a b in
    let most = gcd_most c.args.first.period c.args.second.period a b in
    record { value = e; low = omega (arith, ints, e, some); high = omega (arith, ints, e, most) }
