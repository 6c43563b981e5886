use Rattle.std.proofs.Common.{sym, subst}
use Rattle.node_tables.specs.Fields.{AreInRange}
use Rattle.node_tables.proofs.Codecs.{ranges_at}
use Rattle.node_tables.proofs.entries.write_list.Goals as goal

pub write-requires : goal.write-requires
write-requires g c =
    let item = c.item-item.result in
    let P : g.row.T.Denot → Type 0 = λ x. AreInRange (g.T.Entry.fields x) in
    subst P (sym c.item-item.is) (ranges_at g.T.Entry.fields c.args.items.now c.loop-item.item-index item c.loop-item-test.true c.requires)
