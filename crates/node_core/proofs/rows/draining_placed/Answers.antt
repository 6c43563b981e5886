use Rattle.node_core.proofs.RowsComputed.{drain_places}
use Rattle.node_core.proofs.rows.draining_placed.Goals as goal

pub returns : goal.returns
returns c = drain_places
