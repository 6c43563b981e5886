use Rattle.runtime_model.proofs.RowsComputed.{missed_warning}
use Rattle.runtime_model.proofs.rows.missed_warning_runs_old_mode.Goals as goal

pub returns : goal.returns
returns c = missed_warning
