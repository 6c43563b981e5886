use Rattle.std.proofs.Common.{◌≡◌, ◌++◌, take, map}
use Rattle.std.specs.List.{enumerate_from}
use Rattle.proof_tree.specs.Names.{messages_in}
use Rattle.plan_picture.specs.Picture.{slot_span}
use Rattle.plan_picture.proofs.rounds_lane.add_slots.Given as goal

abbrev pub invariant-loop-at : goal.invariant-loop-at
invariant-loop-at l = l.spans.items ≡ l.initial.spans.items ++ map (slot_span l.rounds (messages_in l.apps) l.start) (take l.at (enumerate_from 1 l.table))
