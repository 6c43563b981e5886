use Rattle.branch_search.proofs.Searches.{Ready}
use Rattle.branch_search.proofs.canonical.search.Given as goal

abbrev pub invariant-loop-visited : goal.invariant-loop-visited
invariant-loop-visited g l = Ready (g.P.Posed.mode l.problem) (g.P.Posed.rounds l.problem) l.walk.prefix.items l.walk.highs.items l.walk.nodes.items l.walk.refs.items l.bench.store.list l.bench.loads l.bench.store.variables l.bench.store.constraints l.visited
