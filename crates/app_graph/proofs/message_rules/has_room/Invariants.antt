use Rattle.std.proofs.Common.{◌≡◌, ◌+◌, ◌<◌, length, take, sum_by}
use Rattle.app_graph.proofs.message_rules.has_room.Given as goal

abbrev pub invariant-loop-app : goal.invariant-loop-app
invariant-loop-app l = record { sum : sum_by (λ a. length a.messages) (take l.app-index l.apps) + l.left ≡ 64; some : 0 < l.left }
