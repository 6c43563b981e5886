use Rattle.std.proofs.Common.{◌≡◌, ◌++◌, map, take}
use Rattle.cert_checker.proofs.names.add_messages.Given as goal

abbrev pub invariant-loop-message : goal.invariant-loop-message
invariant-loop-message l = l.list ≡ l.initial.list ++ map (λ t. t.name) (take l.message-index l.messages)
