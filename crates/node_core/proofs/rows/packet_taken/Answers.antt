use Rattle.node_core.proofs.RowsComputed.{takes_a_packet}
use Rattle.node_core.proofs.rows.packet_taken.Goals as goal

pub returns : goal.returns
returns c = takes_a_packet
