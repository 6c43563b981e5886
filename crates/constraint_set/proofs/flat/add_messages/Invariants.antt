use Rattle.std.proofs.Common.{◌≡◌, ◌++◌, take, map}
use Rattle.constraint_set.specs.Flat.{message_in}
use Rattle.constraint_set.proofs.flat.add_messages.Given as goal

abbrev pub invariant-loop-message : goal.invariant-loop-message
invariant-loop-message l = l.messages.items ≡ l.initial.messages.items ++ map (message_in l.tasks l.app) (take l.message-index l.message-items)
