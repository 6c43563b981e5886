use Rattle.sched_model.proofs.Lengths.{problem_fits}
use Rattle.sched_model.proofs.laws.problems_fit.Goals as goal

pub returns : goal.returns
returns c = problem_fits
