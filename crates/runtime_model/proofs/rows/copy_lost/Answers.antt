use Rattle.runtime_model.proofs.RowsComputed.{copy_lost}
use Rattle.runtime_model.proofs.rows.copy_lost.Goals as goal

pub returns : goal.returns
returns c = copy_lost
