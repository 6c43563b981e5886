use Rattle.std.proofs.Common.{◌≡◌, ◌++◌, length, take, map}
use Rattle.std.specs.List.{flat_map, zip}
use Rattle.proof_tree.specs.Items.{text_of}
use Rattle.proof_tree.specs.PlanText.{part_items}
use Rattle.proof_tree.proofs.document.write_parts.Given as goal

abbrev pub invariant-loop-mode : goal.invariant-loop-mode
invariant-loop-mode l = l.out ≡ l.initial.out ++ flat_map text_of (map part_items (take (length l.yielded) (zip l.modes l.parts)))
