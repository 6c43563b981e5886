use Rattle.node_core.proofs.RowsComputed.{one_copy_is_taken, all_consumers_count}
use Rattle.node_core.proofs.rows.copies_taken.Goals as goal

pub returns-clause-one : goal.returns-clause-one
returns-clause-one c = one_copy_is_taken

pub returns-clause-consumers : goal.returns-clause-consumers
returns-clause-consumers c = all_consumers_count
