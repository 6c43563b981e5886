use Rattle.std.proofs.Common.{arith}
use Rattle.std.specs.Int.{IsGcd}
use Rattle.std.proofs.lemmas.Nat.Gcd.{IsGcd-from_zero, IsGcd-from_mod, le_of_dvd}
use Rattle.std.proofs.Math.Nat.{pos_of_dvd_of_pos}
use Rattle.tick_num.proofs.numbers.divisor_of.Goals as goal

pub loop-y-preserved : goal.loop-y-preserved
loop-y-preserved c g h = c.loop-y.invariant g (IsGcd-from_mod _ _ g h)

pub returns : goal.returns
returns c =
    let d : IsGcd c.args.a c.args.b c.loop-y.x = c.loop-y.invariant _ (IsGcd-from_zero _ _ (omega arith)) in
    record { positive = pos_of_dvd_of_pos d.1 c.requires; bound = le_of_dvd c.requires d.1; greatest = d }
