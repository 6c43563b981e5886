use Rattle.sched_model.specs.PlainMode.{plain_at}
use Rattle.sched_model.proofs.chain_clause.chains_to.Goals as goal

pub chain_fits-requires-clause-sources : goal.chain_fits-requires-clause-sources
chain_fits-requires-clause-sources c = c.sources-sources.ensures (plain_at c.args.set.now c.args.mode) c.requires.graph
