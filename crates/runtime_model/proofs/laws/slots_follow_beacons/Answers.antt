use Rattle.runtime_model.proofs.SlotBeacon.{slots_follow_beacons}
use Rattle.runtime_model.proofs.laws.slots_follow_beacons.Goals as goal

pub returns : goal.returns
returns c = slots_follow_beacons
