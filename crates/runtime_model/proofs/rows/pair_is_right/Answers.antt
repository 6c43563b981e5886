use Rattle.runtime_model.proofs.PairRight.{pair_is_right}
use Rattle.runtime_model.proofs.rows.pair_is_right.Goals as goal

pub returns : goal.returns
returns c = pair_is_right
