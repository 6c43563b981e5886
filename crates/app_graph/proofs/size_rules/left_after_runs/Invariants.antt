use Rattle.std.proofs.Common.{◌≡◌, ◌+◌, ◌*◌, ◌/◌, length, take, sum_by, unsigned_abs}
use Rattle.app_graph.proofs.size_rules.left_after_runs.Given as goal

abbrev pub invariant-loop-app : goal.invariant-loop-app
invariant-loop-app l = sum_by (λ a. length a.tasks * (l.hyper / unsigned_abs a.period)) (take l.app-index l.apps) + l.left ≡ l.limit
