use Rattle.runtime_model.proofs.RowsComputed.{node_part}
use Rattle.runtime_model.proofs.rows.node_part.Goals as goal

pub returns : goal.returns
returns c = node_part
