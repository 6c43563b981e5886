use Rattle.runtime_model.proofs.RowsComputed.{copies_in_part}
use Rattle.runtime_model.proofs.rows.copies_in_part.Goals as goal

pub returns : goal.returns
returns c = copies_in_part
