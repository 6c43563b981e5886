use Rattle.runtime_model.proofs.OneRun.{one_run_at_a_time}
use Rattle.runtime_model.proofs.laws.one_run_at_a_time.Goals as goal

pub returns : goal.returns
returns c = one_run_at_a_time
