use Rattle.runtime_model.proofs.RowsComputed.{lost_beacon}
use Rattle.runtime_model.proofs.rows.lost_beacon.Goals as goal

pub returns : goal.returns
returns c = lost_beacon
