use Rattle.std.proofs.Common.{arith}
use Rattle.sched_model.specs.ConstraintProblem.{of_chain}
use Rattle.sched_model.specs.Links.{sources_of}
use Rattle.constraint_set.proofs.BaseLists.{below_step, listed_length, listed_at}
use Rattle.std.proofs.Common.{length}
use Rattle.constraint_set.proofs.chains.add_chains_of.Goals as goal

pub loop-end-preserved : goal.loop-end-preserved
loop-end-preserved c = below_step (of_chain c.args.frame.now 0 c.args.start) c.loop-end.end c.args.chains.now.items c.loop-end.chains.items c.add_chain.new.chains.items c.loop-end.invariant c.in_ok-add_chain.ensures

pub bounds-sources-end : goal.bounds-sources-end
bounds-sources-end c = omega (arith, listed_length (sources_of c.args.frame.now) (length c.args.frame.now.tasks) c.args.sources.now c.requires.sources)

pub add_chain-requires-clause-sources : goal.add_chain-requires-clause-sources
add_chain-requires-clause-sources c = listed_at (sources_of c.args.frame.now) (length c.args.frame.now.tasks) c.args.sources.now c.loop-end.end _ c.requires.sources (omega arith)
