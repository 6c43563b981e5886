use Rattle.node_core.proofs.RowsComputed.{tables_are_parts}
use Rattle.node_core.proofs.rows.tables_are_parts.Goals as goal

pub returns : goal.returns
returns c = tables_are_parts
