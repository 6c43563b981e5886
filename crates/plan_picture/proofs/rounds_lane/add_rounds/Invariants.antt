use Rattle.std.proofs.Common.{◌≡◌, ◌++◌, length, take}
use Rattle.std.specs.List.{flat_map, zip}
use Rattle.proof_tree.specs.Names.{messages_in}
use Rattle.plan_picture.specs.Picture.{round_spans}
use Rattle.plan_picture.proofs.rounds_lane.add_rounds.Given as goal

abbrev pub invariant-loop-start : goal.invariant-loop-start
invariant-loop-start l = l.spans.items ≡ l.initial.spans.items ++ flat_map (round_spans l.rounds (messages_in l.apps)) (take (length l.yielded) (zip l.starts l.tables))
