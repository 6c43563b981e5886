use Rattle.std.proofs.Common.{◌≡◌, ◌+◌, ◌/◌, take, sum_by, unsigned_abs}
use Rattle.app_graph.specs.ValueRules.{slots_of}
use Rattle.app_graph.proofs.size_rules.left_after_messages.Given as goal

abbrev pub invariant-loop-app : goal.invariant-loop-app
invariant-loop-app l = sum_by (λ a. slots_of (l.hyper / unsigned_abs a.period) a.messages) (take l.app-index l.apps) + l.left ≡ l.limit
