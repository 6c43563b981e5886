use Rattle.runtime_model.proofs.NodeKinds.{kinds_follow}
use Rattle.runtime_model.proofs.laws.kinds_follow.Goals as goal

pub returns : goal.returns
returns c = kinds_follow
