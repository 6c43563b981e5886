use Rattle.replayer.proofs.Lengths.{beacons_come_soon}
use Rattle.replayer.proofs.laws.beacons_come_soon.Goals as goal

pub returns : goal.returns
returns c = beacons_come_soon
