use Rattle.std.proofs.Common.{◌≡◌, ◌+◌, length, take, sum_by, if◌then◌else◌}
use Rattle.app_graph.specs.ValueRules.{among}
use Rattle.app_graph.proofs.message_rules.takes_few.Given as goal

abbrev pub invariant-loop-message : goal.invariant-loop-message
invariant-loop-message l = sum_by (λ m. if among l.task.name m.to then length m.from else 0) (take l.message-index l.message-items) + l.left ≡ 64
