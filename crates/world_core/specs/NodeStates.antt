-- A node in whichever state it is, and what a beacon, ticks, a slot, a run and a restart do to it
use Rattle.std.specs.Prelude.{ℕ, Bool, false, Option, Some, None, List, [], ℤ}
use Rattle.beacon_codec.specs.declared.packet.Beacon.{Beacon}
use Rattle.node_tables.specs.declared.tables.NodeTable.{NodeTable}
use Rattle.node_core.specs.declared.packet.Packet.{Packet}
use Rattle.node_core.specs.declared.states.Missed.{Missed}
use Rattle.node_core.specs.declared.states.Missed.TheVariants.{Coasted, StoodDown}
use Rattle.node_core.specs.Conditions.{MayHear, MayPass, MayMiss, MayUseSlot, MayReceive, MayStart}
use Rattle.node_core.specs.Fits.{TableFits, NodeFits}
use Rattle.node_core.specs.Kinds.{after_miss}
use Rattle.node_core.specs.Registers.{RegistersSeen, no_registers}
use Rattle.node_core.specs.Rules.{first_heard, heard, passed, sent, takes, received, starts, inputs_now, started, end_answer, ended}
use Rattle.node_core.specs.Running.{RunningNode}
use Rattle.world_core.specs.declared.state.State.{State}
use Rattle.world_core.specs.declared.state.State.TheVariants.{Listens, Syncs, Coasts}

-- what stands for a node while a call moves it on
abbrev pub no_state : State
no_state = Listens (record { node = 0; modes = [] })

-- the node's table
abbrev pub table_of : State → NodeTable
table_of (Listens t) = t
table_of (Syncs n) = n.table
table_of (Coasts n) = n.table

-- the node's registers: a Listening node has none that is full
abbrev pub registers_of : State → RegistersSeen
registers_of (Listens t) = no_registers
registers_of (Syncs n) = n.registers
registers_of (Coasts n) = n.registers

-- what is known of a node that runs
abbrev pub running_of : State → Option RunningNode
running_of (Listens t) = None
running_of (Syncs n) = Some n
running_of (Coasts n) = Some n

-- the node is within the limits of its table
abbrev pub StateFits : State → Type 0
StateFits (Listens t) = TableFits t
StateFits (Syncs n) = NodeFits n
StateFits (Coasts n) = NodeFits n

-- ---- beacons

-- it hears a beacon, and is Synced
abbrev pub after_beacon : State → Beacon → State
after_beacon (Listens t) b = Syncs (first_heard t b)
after_beacon (Syncs n) b = Syncs (heard n b)
after_beacon (Coasts n) b = Syncs (heard n b)

abbrev pub MayHearNow : State → Beacon → Type 0
MayHearNow s b = MayHear (table_of s) b

-- what a miss leaves of a Synced node
abbrev pub state_left : Missed → State
state_left (Coasted n) = Coasts n
state_left (StoodDown t) = Listens t

-- it misses a beacon
abbrev pub after_missed : State → State
after_missed (Listens t) = Listens t
after_missed (Syncs n) = state_left (after_miss n)
after_missed (Coasts n) = Listens n.table

abbrev pub MayMissNow : State → Type 0
MayMissNow (Listens t) = Unit {0}
MayMissNow (Syncs n) = MayMiss n
MayMissNow (Coasts n) = MayMiss n

-- it restarts
abbrev pub after_restart : State → State
after_restart s = Listens (table_of s)

-- ---- ticks

-- some ticks pass
abbrev pub after_ticks : State → ℤ → State
after_ticks (Listens t) ticks = Listens t
after_ticks (Syncs n) ticks = Syncs (passed n ticks)
after_ticks (Coasts n) ticks = Coasts (passed n ticks)

abbrev pub MayPassNow : State → ℤ → Type 0
MayPassNow (Listens t) ticks = Unit {0}
MayPassNow (Syncs n) ticks = MayPass n ticks
MayPassNow (Coasts n) ticks = MayPass n ticks

-- ---- slots: only a Synced node sends and takes

-- what it sends in the slot with this number
abbrev pub sent_now : State → ℕ → Option Packet
sent_now (Listens t) slot = None
sent_now (Syncs n) slot = sent n slot
sent_now (Coasts n) slot = None

abbrev pub MayUseSlotNow : State → ℕ → Type 0
MayUseSlotNow (Listens t) slot = Unit {0}
MayUseSlotNow (Syncs n) slot = MayUseSlot n slot
MayUseSlotNow (Coasts n) slot = Unit {0}

-- whether it takes the packet of the slot
abbrev pub takes_now : State → ℕ → Bool
takes_now (Listens t) slot = false
takes_now (Syncs n) slot = takes n slot
takes_now (Coasts n) slot = false

abbrev pub after_packet : State → ℕ → Packet → State
after_packet (Listens t) slot packet = Listens t
after_packet (Syncs n) slot packet = Syncs (received n slot packet)
after_packet (Coasts n) slot packet = Coasts n

abbrev pub MayReceiveNow : State → ℕ → Packet → Type 0
MayReceiveNow (Listens t) slot packet = Unit {0}
MayReceiveNow (Syncs n) slot packet = MayReceive n slot packet
MayReceiveNow (Coasts n) slot packet = Unit {0}

-- ---- runs: a Listening node does nothing

-- whether it performs a start of the task
abbrev pub starts_now : State → ℕ → Bool
starts_now (Listens t) task = false
starts_now (Syncs n) task = starts n task
starts_now (Coasts n) task = starts n task

-- the inputs that a start of the task takes
abbrev pub inputs_at_start : State → ℕ → List (Option ℤ)
inputs_at_start (Listens t) task = []
inputs_at_start (Syncs n) task = inputs_now n task
inputs_at_start (Coasts n) task = inputs_now n task

-- it starts the task, whose end will answer this value
abbrev pub after_start : State → ℕ → ℤ → State
after_start (Listens t) task value = Listens t
after_start (Syncs n) task value = Syncs (started n task value)
after_start (Coasts n) task value = Coasts (started n task value)

abbrev pub MayStartNow : State → ℕ → Type 0
MayStartNow (Listens t) task = Unit {0}
MayStartNow (Syncs n) task = MayStart n task
MayStartNow (Coasts n) task = MayStart n task

-- the value of an end of the task
abbrev pub value_now : State → ℕ → Option ℤ
value_now (Listens t) task = None
value_now (Syncs n) task = end_answer n task
value_now (Coasts n) task = end_answer n task

-- it ends the task's run, where one is in progress
abbrev pub after_end : State → ℕ → State
after_end (Listens t) task = Listens t
after_end (Syncs n) task = Syncs (ended n task)
after_end (Coasts n) task = Coasts (ended n task)
