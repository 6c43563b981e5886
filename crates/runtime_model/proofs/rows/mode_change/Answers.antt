use Rattle.runtime_model.proofs.RowsComputed.{mode_change_lines, mode_change_host}
use Rattle.runtime_model.proofs.rows.mode_change.Goals as goal

pub returns-clause-lines : goal.returns-clause-lines
returns-clause-lines c = mode_change_lines

pub returns-clause-host : goal.returns-clause-host
returns-clause-host c = mode_change_host
