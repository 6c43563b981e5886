use Rattle.runtime_model.proofs.RightSets.{kept_sets_have_right_plans}
use Rattle.runtime_model.proofs.laws.kept_sets_have_right_plans.Goals as goal

pub returns : goal.returns
returns c = kept_sets_have_right_plans
