use Rattle.std.proofs.Common.{◌≡◌, ◌-◌, ◌≤◌}
use Rattle.node_tables.specs.Reading as reads
use Rattle.node_tables.proofs.ListLemmas.{prefixed}
use Rattle.node_tables.proofs.entries.read_list.Given as goal

abbrev pub invariant-loop : goal.invariant-loop
invariant-loop g l = record {
  within : l.counter ≤ l.count;
  so_far : prefixed l.items.items (reads.counted (l.count - l.counter) (g.T.Entry.reading l.version) l.reader) ≡ reads.counted l.count (g.T.Entry.reading l.version) l.fn.reader;
}
