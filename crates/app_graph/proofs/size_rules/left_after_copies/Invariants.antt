use Rattle.std.proofs.Common.{◌≡◌, ◌+◌, ◌*◌, take, sum_by, unsigned_abs}
use Rattle.app_graph.proofs.size_rules.left_after_copies.Given as goal

abbrev pub invariant-loop-message : goal.invariant-loop-message
invariant-loop-message l = sum_by (λ m. unsigned_abs m.copies * l.each) (take l.message-index l.messages) + l.left ≡ l.limit
