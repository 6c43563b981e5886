use Rattle.std.proofs.Common.{ap, arith, length}
use Rattle.sched_model.proofs.TaskNumbers.{few_modes}
use Rattle.ttw_program.proofs.planning.count_of.Goals as goal

pub overflow_cast-result : goal.overflow_cast-result
overflow_cast-result c = omega (arith, ap length c.as_slice.ensures, few_modes c.args.set.now c.requires)
