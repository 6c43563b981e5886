use Rattle.std.proofs.Common.{drop}
use Rattle.app_graph.proofs.Reached.{Left}
use Rattle.app_graph.proofs.reaching.set_reaches.Given as goal

abbrev pub invariant-loop-mode : goal.invariant-loop-mode
invariant-loop-mode l = Left l.mode-items (drop l.mode-index l.mode-items) l.first l.from
