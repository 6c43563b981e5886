-- Worlds of the tests
use Rattle.std.specs.Prelude.{◌≡◌, ◌≢◌, ℕ, ◌<◌, length, All}
use Rattle.app_graph.specs.declared.mode_set.ModeSet.{ModeSet}
use Rattle.world_core.specs.declared.happened.Event.{Event}
use Rattle.world_core.specs.declared.happened.Event.TheVariants.{Advance, Request, Restart}
use Rattle.world_core.specs.Worlds.{WorldSeen}

-- The world has the nodes, the host and the modes of the set, and each task's body is one of this many
pub record IsOfSet (set : ModeSet) (bodies : ℕ) (w : WorldSeen) : Type 0 where
  pub nodes : length w.nodes ≡ length set.nodes
  pub host_node : w.host_node ≡ set.host
  pub cycles : length w.cycles ≡ length set.modes
  pub places : All (λ b. b < bodies) w.places

-- the event may happen in a world of the set
abbrev pub MayHappenIn : ModeSet → Event → Type 0
MayHappenIn set (Advance lost) = Unit {0}
MayHappenIn set (Request mode) = mode < length set.modes
MayHappenIn set (Restart node) = (node < length set.nodes) × (node ≢ set.host)
