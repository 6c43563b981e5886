use Rattle.runtime_model.proofs.RowsComputed.{latest_request, latest_exchanged}
use Rattle.runtime_model.proofs.rows.latest_request_counts.Goals as goal

pub returns-clause-last : goal.returns-clause-last
returns-clause-last c = latest_request

pub returns-clause-exchanged : goal.returns-clause-exchanged
returns-clause-exchanged c = latest_exchanged
