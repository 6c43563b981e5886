use Rattle.std.proofs.Common.{◌≡◌, take, map}
use Rattle.std.specs.List.{flat_map}
use Rattle.constraint_set.specs.Flat.{message_in}
use Rattle.constraint_set.proofs.flat.make_messages.Given as goal

abbrev pub invariant-loop-app : goal.invariant-loop-app
invariant-loop-app l = l.messages.items ≡ flat_map (λ a. map (message_in l.tasks a) a.messages) (take l.app-index l.apps)
