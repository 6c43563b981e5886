use Rattle.std.proofs.Common.{arith}
use Rattle.sched_model.specs.PlainMode.{plain_at}
use Rattle.sched_model.proofs.Hyperperiods.{hyper_some}
use Rattle.sched_model.proofs.verdict.verify.Goals as goal

pub first_broken-requires-clause-limits : goal.first_broken-requires-clause-limits
first_broken-requires-clause-limits c = (omega (arith, c.ticks_of.ensures.value, hyper_some (plain_at c.args.set.now c.args.mode)), c.ticks_of.ensures.limit)
