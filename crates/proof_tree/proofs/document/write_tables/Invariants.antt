use Rattle.std.proofs.Common.{◌≡◌, ◌++◌, take, map}
use Rattle.std.specs.List.{flat_map, enumerate_from}
use Rattle.proof_tree.specs.Items.{line_of}
use Rattle.proof_tree.specs.Names.{messages_in}
use Rattle.proof_tree.specs.PlanText.{table_item}
use Rattle.proof_tree.proofs.document.write_tables.Given as goal

abbrev pub invariant-loop-at : goal.invariant-loop-at
invariant-loop-at l = l.out ≡ l.initial.out ++ flat_map line_of (map (table_item (messages_in l.apps)) (take l.at (enumerate_from 1 l.tables)))
