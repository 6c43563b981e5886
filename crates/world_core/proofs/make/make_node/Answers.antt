use Rattle.std.proofs.Common.{sym, subst}
use Rattle.node_tables.specs.declared.tables.NodeTable.{NodeTable}
use Rattle.node_core.specs.Fits.{TableFits}
use Rattle.node_core.proofs.PartLimits.{parts_fit}
use Rattle.world_core.proofs.make.make_node.Goals as goal

pub make-requires : goal.make-requires
make-requires c =
    subst (λ (t : NodeTable). TableFits t) (sym c.in_ok-table.ensures.exact)
    (parts_fit c.args.set.now c.args.plans.now c.args.node c.requires.rules c.requires.schedules c.requires.node)
