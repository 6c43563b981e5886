use Rattle.std.proofs.Common.{◌≡◌, take, length, sum_by}
use Rattle.app_graph.proofs.reaching.count_tasks.Given as goal

abbrev pub invariant-loop-app : goal.invariant-loop-app
invariant-loop-app l = l.count ≡ sum_by (λ a. length a.tasks) (take l.app-index l.app-items)
