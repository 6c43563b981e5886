use Rattle.std.proofs.Common.{ap, arith, length}
use Rattle.ttw_text.proofs.Spellings.{spelled-decimal}
use Rattle.ttw_text.proofs.output.write_digits.Goals as goal

pub write_digits-requires : goal.write_digits-requires
write_digits-requires c =
    let same = spelled-decimal c.args.n (omega (arith, c.ranges.n.fits)) in
    (omega (arith, ap length same, c.requires.room), c.requires.within)

pub returns-clause-start : goal.returns-clause-start
returns-clause-start c =
    let same = spelled-decimal c.args.n (omega (arith, c.ranges.n.fits)) in
    omega (arith, ap length same, c.write_digits.ensures.start)

pub returns-clause-written : goal.returns-clause-written
returns-clause-written c =
    let same = spelled-decimal c.args.n (omega (arith, c.ranges.n.fits)) in
    rw (same) c.write_digits.ensures.written
