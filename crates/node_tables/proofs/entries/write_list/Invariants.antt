use Rattle.std.proofs.Common.{◌≡◌, ◌++◌, take}
use Rattle.std.specs.List.{flat_map}
use Rattle.node_tables.specs.Fields.{bytes}
use Rattle.node_tables.proofs.entries.write_list.Given as goal

abbrev pub invariant-loop-item : goal.invariant-loop-item
invariant-loop-item g l = l.out ≡ l.fn.out ++ bytes (flat_map g.T.Entry.fields (take l.item-index l.items))
