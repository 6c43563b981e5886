use Rattle.guard.proofs.GuardLemmas.{least_both}
use Rattle.guard.proofs.parts.least_ticks.Goals as goal

pub returns : goal.returns
returns c = least_both c.args.round c.guard_of_parts.result c.guard_of_beacon.result c.max.result c.guard_of_parts.ensures c.guard_of_beacon.ensures c.max.ensures
