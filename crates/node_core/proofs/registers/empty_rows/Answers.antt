use Rattle.std.proofs.Common.{List, [], slice_set, ap, ◌∙◌, add-one}
use Rattle.node_core.specs.Registers.{InRow}
use Rattle.node_core.proofs.RegisterLemmas.{written_more}
use Rattle.node_core.proofs.registers.empty_rows.Goals as goal

pub loop-row-preserved : goal.loop-row-preserved
loop-row-preserved c =
    rw (c.empty.ensures, add-one)
    (ap (λ (rows : List InRow). slice_set rows c.loop-row.row-index []) c.loop-row.invariant ∙ written_more [] c.args.rows.now c.loop-row.row-index c.loop-row-test.true)
