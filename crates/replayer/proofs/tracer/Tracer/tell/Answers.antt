use Rattle.std.proofs.Common.{[]}
use Rattle.replayer.proofs.CountLemmas.{counted_whole}
use Rattle.replayer.proofs.tracer.Tracer.tell.Goals as goal

pub returns-clause-counted : goal.returns-clause-counted
returns-clause-counted g c = counted_whole c.args.self.now.counts c.add.new.self c.args.done.now [] c.args.inputs.now c.add.ensures.counted
