use Rattle.runtime_model.proofs.RowsComputed.{restart_before, restart_after}
use Rattle.runtime_model.proofs.rows.restart_empties_registers.Goals as goal

pub returns-clause-before : goal.returns-clause-before
returns-clause-before c = restart_before

pub returns-clause-after : goal.returns-clause-after
returns-clause-after c = restart_after
