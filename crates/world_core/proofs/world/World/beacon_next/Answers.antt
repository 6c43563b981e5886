use Rattle.world_core.proofs.NextBeacons.{tells, world_may_come}
use Rattle.world_core.proofs.world.World.beacon_next.Goals as goal

pub beacon_next-requires : goal.beacon_next-requires
beacon_next-requires c = world_may_come c.self.inside.kept c.self.invariant

pub returns : goal.returns
returns c = tells c.self.inside.kept c.args.self.now _ c.self.view_is c.beacon_next.ensures
