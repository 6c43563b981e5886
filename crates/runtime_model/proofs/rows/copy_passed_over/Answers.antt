use Rattle.runtime_model.proofs.RowsComputed.{copy_passed_over}
use Rattle.runtime_model.proofs.rows.copy_passed_over.Goals as goal

pub returns : goal.returns
returns c = copy_passed_over
