use Rattle.runtime_model.proofs.NextRound.{beacons_in_order}
use Rattle.runtime_model.proofs.laws.beacons_in_order.Goals as goal

pub returns : goal.returns
returns c = beacons_in_order
