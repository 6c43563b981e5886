-- What contracts see of a node that runs: one that is Synced or Coasting. A Listening node is seen as its table
use Rattle.std.specs.Prelude.{ℕ, Bool, ℤ}
use Rattle.beacon_codec.specs.declared.packet.Beacon.{Beacon}
use Rattle.node_tables.specs.declared.tables.NodeTable.{NodeTable}
use Rattle.node_tables.specs.declared.tables.ModeTable.{ModeTable}
use Rattle.node_tables.specs.declared.tables.OwnRound.{OwnRound}
use Rattle.node_core.specs.Lookup.{mode_at, round_at}
use Rattle.node_core.specs.Registers.{RegistersSeen}

-- Its table and the last beacon that it heard; its mode, and the round of its last beacon, heard or missed, both by their places from 0;
-- the tick, from the hyperperiod's start; whether no tick has passed since that beacon; whether the hyperperiod opens the mode's stay,
-- and whether it drains; the registers
pub record RunningNode : Type 0 where
  pub table : NodeTable
  pub heard : Beacon
  pub mode : ℕ
  pub round : ℕ
  pub tick : ℤ
  pub at_beacon : Bool
  pub opening : Bool
  pub draining : Bool
  pub registers : RegistersSeen

-- the table of its mode
abbrev pub mode_of : RunningNode → ModeTable
mode_of n = mode_at n.table n.mode

-- the table of its round
abbrev pub round_of : RunningNode → OwnRound
round_of n = round_at (mode_of n) n.round
