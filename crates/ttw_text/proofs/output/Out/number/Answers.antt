use Rattle.std.proofs.Common.{arith}
use Rattle.ttw_text.proofs.Spellings.{length-spelled-le}
use Rattle.ttw_text.proofs.output.Out.number.Goals as goal

pub write_digits-start-requires-clause-room : goal.write_digits-start-requires-clause-room
write_digits-start-requires-clause-room c = length-spelled-le 20 c.args.n (omega arith) (omega (arith, c.ranges.n.fits)) (omega (arith, c.ranges.n.fits))
