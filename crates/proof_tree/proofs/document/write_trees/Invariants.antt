use Rattle.std.proofs.Common.{◌≡◌, ◌++◌, take, map}
use Rattle.std.specs.List.{flat_map, enumerate_from}
use Rattle.proof_tree.specs.Items.{text_of}
use Rattle.proof_tree.specs.PlanText.{refuted_items}
use Rattle.proof_tree.proofs.document.write_trees.Given as goal

abbrev pub invariant-loop-at : goal.invariant-loop-at
invariant-loop-at l = l.out ≡ l.initial.out ++ flat_map text_of (map refuted_items (take l.at (enumerate_from 1 l.trees)))
