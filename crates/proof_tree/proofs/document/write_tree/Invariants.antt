use Rattle.std.proofs.Common.{◌≡◌, ◌++◌, take, map}
use Rattle.std.specs.List.{flat_map}
use Rattle.proof_tree.specs.Items.{line_of}
use Rattle.proof_tree.specs.PlanText.{stored_item}
use Rattle.proof_tree.proofs.document.write_tree.Given as goal

abbrev pub invariant-loop-node : goal.invariant-loop-node
invariant-loop-node l = l.out ≡ l.initial.out ++ flat_map line_of (map (stored_item l.tree.refs) (take l.node-index l.tree.nodes))
