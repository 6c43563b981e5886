use Rattle.runtime_model.proofs.EndOfRun.{ends_follow_runs}
use Rattle.runtime_model.proofs.laws.ends_follow_runs.Goals as goal

pub returns : goal.returns
returns c = ends_follow_runs
