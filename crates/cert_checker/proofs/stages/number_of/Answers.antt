use Rattle.std.proofs.Common.{arith}
use Rattle.cert_checker.proofs.DocumentLaws.{few_modes}
use Rattle.cert_checker.proofs.stages.number_of.Goals as goal

pub overflow_cast-result : goal.overflow_cast-result
overflow_cast-result c = omega (arith, c.requires.mode, few_modes c.args.set.now c.requires.rules)
