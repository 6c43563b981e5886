-- What contracts see of a world
use Rattle.std.specs.Prelude.{ℕ, List, [], slice_index_or, ℤ}
use Rattle.mode_change.specs.HostSeen.{HostSeen}
use Rattle.world_core.specs.declared.cycle.Entry.{Entry}
use Rattle.world_core.specs.declared.state.State.{State}
use Rattle.world_core.specs.NodeStates.{no_state}

-- Its nodes, the host and which node it is; of each mode the cycle and the hyperperiod; of each task the node and the place of its body.
-- Then where it stands: the place of the next entry in the running mode's cycle, the first tick of the hyperperiod, and the tick of the last Advance
pub record WorldSeen : Type 0 where
  pub nodes : List State
  pub host : HostSeen
  pub host_node : ℕ
  pub cycles : List (List Entry)
  pub hypers : List ℤ
  pub owners : List ℕ
  pub places : List ℕ
  pub place : ℕ
  pub begin : ℤ
  pub moment : ℤ

-- the node at this place
abbrev pub node_at : WorldSeen → ℕ → State
node_at w v = slice_index_or w.nodes v no_state

-- the cycle of a mode
abbrev pub cycle_at : WorldSeen → ℕ → List Entry
cycle_at w mode = slice_index_or w.cycles mode []
