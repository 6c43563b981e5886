use Rattle.std.proofs.Common.{◌≡◌, ◌+◌, take, count_by, sum_by}
use Rattle.std.specs.Str.{bytes_eq}
use Rattle.app_graph.proofs.size_rules.left_after_task.Given as goal

abbrev pub invariant-loop-app : goal.invariant-loop-app
invariant-loop-app l =
    count_by (λ u. bytes_eq l.task.node u.node) l.tasks + sum_by (λ a. count_by (λ u. bytes_eq l.task.node u.node) a.tasks) (take l.app-index l.apps) + l.left ≡ l.limit
