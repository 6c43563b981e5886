-- What a step of a world leaves as it is
use Rattle.std.specs.Prelude.{◌≡◌, length, pos, ◌+ℤ◌, ◌≤ℤ◌}
use Rattle.world_core.specs.Worlds.{WorldSeen}

-- The modes, the nodes, the host and the places of the bodies stay. The tick never falls, and rises by at most the longest hyperperiod
pub record StaysSame (old new : WorldSeen) : Type 0 where
  pub cycles : new.cycles ≡ old.cycles
  pub nodes : length new.nodes ≡ length old.nodes
  pub host_node : new.host_node ≡ old.host_node
  pub places : new.places ≡ old.places
  pub later : old.moment ≤ℤ new.moment
  pub within : new.moment ≤ℤ (old.moment +ℤ pos 1000000000000)
