use Rattle.std.proofs.Common.{◌≡◌, ◌++◌, length, take, map}
use Rattle.std.specs.List.{flat_map, zip}
use Rattle.proof_tree.specs.Items.{line_of}
use Rattle.proof_tree.specs.Names.{messages_in}
use Rattle.proof_tree.specs.PlanText.{message_item}
use Rattle.proof_tree.proofs.document.write_messages.Given as goal

abbrev pub invariant-loop-message : goal.invariant-loop-message
invariant-loop-message l = l.out ≡ l.initial.out ++ flat_map line_of (map message_item (take (length l.yielded) (zip (messages_in l.apps) l.windows)))
