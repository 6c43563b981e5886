-- The conditions of a node's calls
use Rattle.std.specs.Prelude.{◌≡◌, ◌≢◌, ℕ, ◌<◌, ◌≤◌, ◌%◌, true, length, Option, Some, None, IfSome, IsTrue, ℤ, pos, ◌+ℤ◌, ◌≤ℤ◌}
use Rattle.sched_model.specs.Numbers.{natural}
use Rattle.beacon_codec.specs.declared.packet.Beacon.{Beacon}
use Rattle.node_tables.specs.declared.tables.NodeTable.{NodeTable}
use Rattle.node_tables.specs.declared.tables.OwnTask.{OwnTask}
use Rattle.node_tables.specs.declared.tables.OwnSlot.{OwnSlot}
use Rattle.node_core.specs.declared.packet.Packet.{Packet}
use Rattle.node_core.specs.Lookup.{mode_of_round, own_slot, own_message, own_task}
use Rattle.node_core.specs.Running.{RunningNode, mode_of, round_of}
use Rattle.node_core.specs.Rules.{next_start, starts}

-- a node may hear a beacon: its round is in the table, a trigger names another mode than the round's, and trigger and opening are not both set
pub record MayHear (t : NodeTable) (b : Beacon) : Type 0 where
  pub known : mode_of_round t b.round < length t.modes
  pub trigger : IsTrue b.trigger → b.mode ≢ mode_of_round t b.round
  pub one_flag : ¬ (IsTrue b.trigger × IsTrue b.opening)

-- so many ticks may pass: not below 0, and not beyond the next round's start
pub record MayPass (n : RunningNode) (ticks : ℤ) : Type 0 where
  pub low : pos 0 ≤ℤ ticks
  pub high : (n.tick +ℤ ticks) ≤ℤ next_start n

-- a node may miss a beacon once it has come to the next round's start
abbrev pub MayMiss : RunningNode → Type 0
MayMiss n = n.tick ≡ next_start n

-- a slot may be asked for: it is from 1 to 32, and no tick has passed since the node heard its round's beacon
pub record MayUseSlot (n : RunningNode) (slot : ℕ) : Type 0 where
  pub first : 1 ≤ slot
  pub last : slot ≤ 32
  pub at_beacon : n.at_beacon ≡ true

-- the packet has one value per producer of its message, where that is an own one
abbrev pub HasValues : RunningNode → Packet → Type 0
HasValues n packet = IfSome (own_message (mode_of n).messages packet.message) (λ m. length packet.values ≡ length m.producers)

-- the packet is that of the slot: an own slot has its message, and in another slot the message is not the node's
abbrev pub IsOfSlot : RunningNode → Option OwnSlot → Packet → Type 0
IsOfSlot n None packet = own_message (mode_of n).messages packet.message ≡ None
IsOfSlot n (Some s) packet = s.message ≡ packet.message

-- a packet may come in a slot
pub record MayReceive (n : RunningNode) (slot : ℕ) (packet : Packet) : Type 0 where
  pub may_use : MayUseSlot n slot
  pub values : HasValues n packet
  pub same : IsOfSlot n (own_slot (round_of n) slot) packet

-- a task is due at a tick: the tick is congruent to its offset modulo its period
abbrev pub IsDue : ℤ → OwnTask → Type 0
IsDue tick t = natural t.offset % natural t.period ≡ natural tick % natural t.period

-- the task is one of these and due
abbrev pub IsOwnAndDue : ℤ → Option OwnTask → Type 0
IsOwnAndDue tick None = ⊥
IsOwnAndDue tick (Some t) = IsDue tick t

-- a task may start: it is one of the node's in its mode and due, and where the start is placed, no run is in progress
pub record MayStart (n : RunningNode) (task : ℕ) : Type 0 where
  pub due : IsOwnAndDue n.tick (own_task (mode_of n).tasks task)
  pub free : starts n task ≡ true → n.registers.run ≡ None
