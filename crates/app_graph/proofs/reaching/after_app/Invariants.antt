use Rattle.std.proofs.Common.{◌≡◌, take, fold}
use Rattle.app_graph.specs.Reaching.{after_message}
use Rattle.app_graph.proofs.reaching.after_app.Given as goal

abbrev pub invariant-loop-message : goal.invariant-loop-message
invariant-loop-message l = l.marks ≡ fold (after_message l.first) l.fn.marks (take l.message-index l.message-items)
