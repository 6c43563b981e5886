use Rattle.std.proofs.Common.{◌≡◌, take, fold}
use Rattle.app_graph.specs.Reaching.{after_app}
use Rattle.app_graph.proofs.reaching.after_mode.Given as goal

abbrev pub invariant-loop-app : goal.invariant-loop-app
invariant-loop-app l = l.marks ≡ fold (after_app l.first) l.fn.marks (take l.app-index l.app-items)
