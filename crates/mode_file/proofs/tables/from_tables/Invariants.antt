use Rattle.std.proofs.Common.{◌≡◌, None, map, take}
use Rattle.toml.specs.View.{view}
use Rattle.app_graph.specs.Rules.{each}
use Rattle.mode_file.specs.Tables.{tables_in}
use Rattle.mode_file.proofs.tables.from_tables.Given as goal

abbrev pub invariant-loop-value : goal.invariant-loop-value
invariant-loop-value g l =
    let tables = tables_in (map view (take l.value-index l.values)) in record {
      kept : each g.T.FromTable.rules tables ≡ None;
      said : l.all.items ≡ map g.T.FromTable.said tables;
    }
