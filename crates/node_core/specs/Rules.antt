-- The rules of a node: what each call does to it, and what it answers
use Rattle.std.specs.Prelude.{ℕ, suc, ◌-◌, Bool, true, false, cond, not, ◌&&◌, nat_eq, nat_lt, int_le, int_lt, List, length, Option, Some, None, ℤ, pos, ◌+ℤ◌, ◌-ℤ◌}
use Rattle.std.specs.Ordering.{int_eq}
use Rattle.beacon_codec.specs.declared.packet.Beacon.{Beacon}
use Rattle.runtime_model.specs.Timeline.{PlainPhase, steady, drain}
use Rattle.runtime_model.specs.Placement.{placed, not_negative}
use Rattle.node_tables.specs.declared.tables.NodeTable.{NodeTable}
use Rattle.node_tables.specs.declared.tables.ModeTable.{ModeTable}
use Rattle.node_tables.specs.declared.tables.OwnTask.{OwnTask}
use Rattle.node_tables.specs.declared.tables.OwnMessage.{OwnMessage}
use Rattle.node_tables.specs.declared.tables.OwnSlot.{OwnSlot}
use Rattle.node_core.specs.declared.packet.Packet.{Packet}
use Rattle.node_core.specs.Lookup.{mode_at, round_at, mode_of_round, own_slot, own_message, own_task, sends, is_taken}
use Rattle.node_core.specs.Registers.{RegistersSeen, no_registers, values_of, filled, all_full, inputs_of, begun, value_at_end, ended_with}
use Rattle.node_core.specs.Running.{RunningNode, mode_of, round_of}

-- ---- beacons

-- the round of a beacon, by its place in this mode
abbrev pub round_in : NodeTable → ℕ → Beacon → ℕ
round_in t mode b = b.round - (mode_at t mode).first_round

-- a node at the start of the round of a beacon that it hears: the beacon's round gives mode, round and tick, its flags whether the hyperperiod drains and opens
abbrev pub at_round : NodeTable → Beacon → ℕ → RegistersSeen → RunningNode
at_round t b mode g = record {
  table = t;
  heard = b;
  mode = mode;
  round = round_in t mode b;
  tick = (round_at (mode_at t mode) (round_in t mode b)).start;
  at_beacon = true;
  opening = b.opening;
  draining = b.trigger;
  registers = g;
}

-- a Listening node that hears a beacon: its registers are empty
abbrev pub first_heard : NodeTable → Beacon → RunningNode
first_heard t b = at_round t b (mode_of_round t b.round) no_registers

-- a running node that hears a beacon: one of a round of another mode than the node's empties the registers and ends the run
abbrev pub heard : RunningNode → Beacon → RunningNode
heard n b = at_round n.table b (mode_of_round n.table b.round) (cond (nat_eq (mode_of_round n.table b.round) n.mode) n.registers no_registers)

-- the last beacon that the node heard announced a change: it named another mode than its round's
abbrev pub announced : RunningNode → Bool
announced n = not (nat_eq n.heard.mode n.mode)

-- the node's round is the last of its mode
abbrev pub in_last_round : RunningNode → Bool
in_last_round n = not (nat_lt (suc n.round) (length (mode_of n).rounds))

-- the round after the node's own, by its place
abbrev pub next_round : RunningNode → ℕ
next_round n = cond (in_last_round n) 0 (suc n.round)

-- the hyperperiod has turned since the node's last beacon: ticks have passed, and yet the tick isn't past the start of that beacon's round
abbrev pub has_turned : RunningNode → Bool
has_turned n = not n.at_beacon && int_le n.tick (round_of n).start

-- the start of the next round, from the start of the hyperperiod that the node is in: after the last round it is in the next hyperperiod
abbrev pub next_start : RunningNode → ℤ
next_start n = (round_at (mode_of n) (next_round n)).start +ℤ cond (in_last_round n && not (has_turned n)) (mode_of n).hyper (pos 0)

-- a node that coasts past a beacon that it misses: its round is the next one
abbrev pub coasted : RunningNode → RunningNode
coasted n = record n { round = next_round n; at_beacon = true }

-- ---- ticks

-- the node at the start of the next hyperperiod, which for it is neither opening nor draining; one that it knew to drain leaves no registers
abbrev pub turned : RunningNode → ℤ → RunningNode
turned n tick = record n { tick = tick; at_beacon = false; opening = false; draining = false; registers = cond n.draining no_registers n.registers }

-- some ticks on
abbrev pub passed : RunningNode → ℤ → RunningNode
passed n ticks =
    cond (int_lt (n.tick +ℤ ticks) (mode_of n).hyper)
    (record n { tick = n.tick +ℤ ticks; at_beacon = n.at_beacon && int_eq ticks (pos 0) })
    (turned n ((n.tick +ℤ ticks) -ℤ (mode_of n).hyper))

-- ---- slots

-- what the node knows of its hyperperiod's phase, as far as placement asks: whether it drains
abbrev pub phase_known : RunningNode → PlainPhase
phase_known n = cond n.draining (drain n.heard.mode) steady

-- a slot is placed for the node: it is of this hyperperiod or a later one where its release is not negative
abbrev pub slot_placed : RunningNode → OwnSlot → Bool
slot_placed n s = placed n.opening (phase_known n) (not_negative s.release)

-- the own message of an own slot of a mode
abbrev pub message_in : ModeTable → Option OwnSlot → Option OwnMessage
message_in m None = None
message_in m (Some s) = own_message m.messages s.message

-- the packet of a message with these values
abbrev pub packet_of : OwnMessage → Option (List ℤ) → Option Packet
packet_of m None = None
packet_of m (Some values) = Some (record { message = m.number; values = values })

-- the packet of a message that the node sends, where the out registers of all producers are full
abbrev pub packet_from : RegistersSeen → Option OwnMessage → Option Packet
packet_from g None = None
packet_from g (Some m) = cond (sends m) (packet_of m (values_of g m.producers)) None

-- what is sent in an own slot, or in no own slot
abbrev pub sent_in : RunningNode → Option OwnSlot → Option Packet
sent_in n None = None
sent_in n (Some s) = cond (slot_placed n s) (packet_from n.registers (own_message (mode_of n).messages s.message)) None

-- what a Synced node sends in the slot with this number, from 1
abbrev pub sent : RunningNode → ℕ → Option Packet
sent n slot = sent_in n (own_slot (round_of n) slot)

-- a copy of a message is taken where a task of the node consumes the message,
-- unless it is not the first one and the in registers of all its consumers are full
abbrev pub takes_copy : RegistersSeen → ℕ → OwnMessage → Bool
takes_copy g copy m = is_taken m && not (nat_lt 1 copy && all_full g.ins m)

-- this copy of a message, if it is one of the node's, is taken
abbrev pub is_received : RegistersSeen → ℕ → Option OwnMessage → Bool
is_received g copy None = false
is_received g copy (Some m) = takes_copy g copy m

-- the registers after a packet with this copy of a message
abbrev pub registers_with : ℕ → Option OwnMessage → Packet → RegistersSeen → RegistersSeen
registers_with copy None packet g = g
registers_with copy (Some m) packet g = cond (takes_copy g copy m) (filled m packet.values g) g

-- the copy that an own slot carries
abbrev pub copy_in : Option OwnSlot → ℕ
copy_in None = 0
copy_in (Some s) = s.copy

-- the copy that the slot with this number in the node's round carries
abbrev pub copy_of_slot : RunningNode → ℕ → ℕ
copy_of_slot n slot = copy_in (own_slot (round_of n) slot)

-- the own message of the slot with this number in the node's round
abbrev pub message_of_slot : RunningNode → ℕ → Option OwnMessage
message_of_slot n slot = message_in (mode_of n) (own_slot (round_of n) slot)

-- whether the node takes the packet of the slot
abbrev pub takes : RunningNode → ℕ → Bool
takes n slot = is_received n.registers (copy_of_slot n slot) (message_of_slot n slot)

-- the node after the packet of the slot
abbrev pub received : RunningNode → ℕ → Packet → RunningNode
received n slot packet =
    record n { registers = registers_with (copy_of_slot n slot) (message_of_slot n slot) packet n.registers }

-- ---- runs

-- a start of the task at the node's tick is placed: it is of this hyperperiod or a later one where the tick isn't before the offset
abbrev pub start_placed : RunningNode → Option OwnTask → Bool
start_placed n None = false
start_placed n (Some t) = placed n.opening (phase_known n) (int_le t.offset n.tick)

-- the node performs the start of the task
abbrev pub starts : RunningNode → ℕ → Bool
starts n task = start_placed n (own_task (mode_of n).tasks task)

-- the inputs that a start of the task takes
abbrev pub inputs_now : RunningNode → ℕ → List (Option ℤ)
inputs_now n task = inputs_of n.registers.ins task (mode_of n).messages

-- the inputs of the start, where it is performed
abbrev pub start_answer : RunningNode → ℕ → Option (List (Option ℤ))
start_answer n task = cond (starts n task) (Some (inputs_now n task)) None

-- the node after a start of the task whose end will answer this value
abbrev pub started : RunningNode → ℕ → ℤ → RunningNode
started n task value = cond (starts n task) (record n { registers = begun task value (mode_of n).messages n.registers }) n

-- the value of an end of the task
abbrev pub end_answer : RunningNode → ℕ → Option ℤ
end_answer n task = value_at_end task n.registers.run

-- the node after an end of the task
abbrev pub ended : RunningNode → ℕ → RunningNode
ended n task = record n { registers = ended_with task (end_answer n task) n.registers }
