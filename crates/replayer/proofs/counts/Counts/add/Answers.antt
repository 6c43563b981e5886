use Rattle.std.proofs.Common.{rules, []}
use Rattle.world_core.specs.Done.{whole}
use Rattle.replayer.proofs.CountLemmas.{one_more_counted}
use Rattle.replayer.proofs.counts.Counts.add.Goals as goal

pub returns-in-Sent-clause-counted : goal.returns-in-Sent-clause-counted
returns-in-Sent-clause-counted c = one_more_counted c.args.self.now _ (whole c.args.done.now []) (search rules)

pub returns-in-Started-clause-counted : goal.returns-in-Started-clause-counted
returns-in-Started-clause-counted c = one_more_counted c.args.self.now _ (whole c.args.done.now []) (search rules)

pub returns-in_default-clause-counted : goal.returns-in_default-clause-counted
returns-in_default-clause-counted c = one_more_counted c.args.self.now _ (whole c.args.done.now []) (search rules)
