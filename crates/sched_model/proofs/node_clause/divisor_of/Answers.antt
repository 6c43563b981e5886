use Rattle.std.proofs.Common.{rules, arith, sym, ap, w64, ℤ, to_z, of_z, FitsSigned, unsigned_abs}
use Rattle.std.proofs.lemmas.Int.{to_z-of_z, to_z_pos}
use Rattle.tick_num.proofs.Multiples.{same_gcd}
use Rattle.sched_model.proofs.Gaps.{gcd_most}
use Rattle.sched_model.proofs.node_clause.divisor_of.Goals as goal

pub returns-clause-greatest : goal.returns-clause-greatest
returns-clause-greatest c =
    let fits : FitsSigned w64 c.gcd.result = search rules in
    same_gcd _ _ _ c.args.first c.args.second _ (ap (λ (z : ℤ). unsigned_abs z) (to_z_pos w64 c.args.first (omega arith))) (ap (λ (z : ℤ). unsigned_abs z) (to_z_pos w64 c.args.second (omega arith)))
    (sym (ap (λ (z : ℤ). unsigned_abs z) (to_z-of_z w64 c.gcd.result fits))) c.gcd.ensures.greatest

pub returns-clause-most : goal.returns-clause-most
returns-clause-most c =
    let r = returns-clause-greatest c in
    let h = gcd_most c.args.first c.args.second (unsigned_abs (to_z w64 (of_z w64 c.gcd.result))) (omega arith) r in
    omega (arith, h)
