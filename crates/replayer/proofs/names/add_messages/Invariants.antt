use Rattle.std.proofs.Common.{◌≡◌, ◌++◌, take, map}
use Rattle.replayer.proofs.names.add_messages.Given as goal

abbrev pub invariant-loop-message : goal.invariant-loop-message
invariant-loop-message l = l.names ≡ l.initial.names ++ map (λ m. m.name) (take l.message-index l.message-items)
