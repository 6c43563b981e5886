use Rattle.node_core.proofs.RowsComputed.{four_producers}
use Rattle.node_core.proofs.rows.four_producers.Goals as goal

pub returns : goal.returns
returns c = four_producers
