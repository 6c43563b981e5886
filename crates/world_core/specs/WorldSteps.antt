-- What each step does to a world, as the code goes: the rules of its private calls. That a world which stands for its events goes on to stand for them is shown beside them
use Rattle.std.specs.Prelude.{◌≡◌, ℕ, suc, ◌<◌, ◌≤◌, Bool, true, false, cond, not, nat_lt, nat_eq, List, length, fold, slice_index_or, slice_set, Option, Some, None, ℤ, pos, ◌+ℤ◌, ◌-ℤ◌, ◌≤ℤ◌}
use Rattle.sched_model.specs.Numbers.{below}
use Rattle.beacon_codec.specs.declared.packet.Beacon.{Beacon}
use Rattle.task_body.specs.Body.{BodySeen, answer_of, body_at, fired, reset_for}
use Rattle.runtime_model.specs.HostCalls.{end_round_call, next_beacon_call, request_call}
use Rattle.mode_change.specs.HostSeen.{HostSeen, with_call, host_beacon}
use Rattle.node_core.specs.declared.packet.Packet.{Packet}
use Rattle.world_core.specs.declared.cycle.Action.{Action}
use Rattle.world_core.specs.declared.cycle.Action.TheVariants.{End, Beacon as Opens, Slot, Start}
use Rattle.world_core.specs.declared.cycle.Entry.{Entry}
use Rattle.world_core.specs.declared.happened.Happened.{Happened}
use Rattle.world_core.specs.declared.happened.Happened.TheVariants.{Beacon as Beaconed, Sent, Silent, Started, Off, Ended, Void}
use Rattle.world_core.specs.declared.state.State.{State}
use Rattle.world_core.specs.Happened.{bits_of, typed_beacon}
use Rattle.world_core.specs.Nodes.{AllMayBeTold, AllMayPass, AllMayReceive, AllMayUseSlot, all_after, all_given, all_told, hearers, sender_in, takers}
use Rattle.world_core.specs.NodeStates.{no_state, MayStartNow, after_end, after_restart, after_start, inputs_at_start, sent_now, starts_now, value_now}
use Rattle.world_core.specs.Worlds.{WorldSeen, cycle_at, node_at}

-- ---- to the next entry

-- the mode that runs
abbrev pub mode_of : WorldSeen → ℕ
mode_of w = w.host.host.mode

-- no entry of its cycle is left
abbrev pub is_over : WorldSeen → Bool
is_over w = not (nat_lt w.place (length (cycle_at w (mode_of w))))

-- the first tick of the next hyperperiod
abbrev pub next_begin : WorldSeen → ℤ
next_begin w = w.begin +ℤ slice_index_or w.hypers (mode_of w) (pos 0)

-- the hyperperiod turns: the next one begins where this one's length says, and the last round ends with it
abbrev pub turned : WorldSeen → WorldSeen
turned w = record w { host = with_call w.host end_round_call; place = 0; begin = next_begin w }

-- a world may turn: its host is in a round, and the hyperperiod's length is known
pub record MayTurn (w : WorldSeen) : Type 0 where
  pub inside : w.host.host.inside ≡ true
  pub mode : mode_of w < length w.hypers
  pub begin : (pos 0 ≤ℤ w.begin) × (w.begin ≤ℤ pos 9000000000000000000)
  pub hyper : let h = slice_index_or w.hypers (mode_of w) (pos 0) in (pos 0 ≤ℤ h) × (h ≤ℤ pos 1000000000000)

-- the world at the hyperperiod of the next entry
abbrev pub arrived : WorldSeen → WorldSeen
arrived w = cond (is_over w) (turned w) w

-- what stands for an entry past the last one
abbrev pub no_entry : Entry
no_entry = record { tick = pos 0; action = Opens 0 }

-- the next entry of the running cycle
abbrev pub next_entry : WorldSeen → Entry
next_entry w = slice_index_or (cycle_at w (mode_of w)) w.place no_entry

-- a world may come to its next entry: the running mode is known, and so is the entry there
pub record MayCome (w : WorldSeen) : Type 0 where
  pub mode : mode_of w < length w.cycles
  pub known : mode_of (arrived w) < length w.cycles
  pub left : (arrived w).place < length (cycle_at (arrived w) (mode_of (arrived w)))

-- whether the entry is a beacon
abbrev pub opens : Action → Bool
opens (End v task) = false
opens (Opens j) = true
opens (Slot slot message) = false
opens (Start v task) = false

-- the ticks up to this moment pass at all nodes, and the place moves on
abbrev pub moved : WorldSeen → ℤ → WorldSeen
moved w now = record w { nodes = all_after w.nodes (now -ℤ w.moment); place = suc w.place; moment = now }

-- a world may move to a moment: it isn't in the past, and all nodes may let the ticks pass
pub record MayMove (w : WorldSeen) (moment : ℤ) : Type 0 where
  pub past : pos 0 ≤ℤ w.moment
  pub later : w.moment ≤ℤ moment
  pub place : w.place < 9000000000000000000
  pub pass : AllMayPass w.nodes (moment -ℤ w.moment)

-- the world at its next entry, with the ticks passed
abbrev pub at_entry : WorldSeen → WorldSeen
at_entry w = let x = arrived w in moved x (x.begin +ℤ (next_entry x).tick)

-- ---- what an entry does to a world that has come to it

abbrev pub with_node : WorldSeen → ℕ → State → WorldSeen
with_node w v n = record w { nodes = slice_set w.nodes v n }

-- the host at the beacon of the next round: it first ends the round that it is in
abbrev pub host_at_beacon : HostSeen → HostSeen
host_at_beacon h = with_call (cond h.host.inside (with_call h end_round_call) h) next_beacon_call

-- the beacon that it sends
abbrev pub beacon_now : WorldSeen → Beacon
beacon_now w = typed_beacon (host_beacon (host_at_beacon w.host))

-- the packet that the sender gives, where there is one
abbrev pub packet_from : List State → ℕ → Option ℕ → Option Packet
packet_from nodes slot None = None
packet_from nodes slot (Some v) = sent_now (slice_index_or nodes v no_state) slot

-- the nodes after a slot in which this node sends this packet, or nobody sends
abbrev pub after_slot : List State → ℕ → (lost : ℕ) → Option ℕ → Option Packet → List State
after_slot nodes slot lost (Some v) (Some packet) = all_given nodes slot packet lost v
after_slot nodes slot lost v packet = nodes

-- what the body of a task at a place of the bodies answers
abbrev pub answer_at : List BodySeen → ℕ → ℕ → List (Option ℤ) → ℤ
answer_at bodies b task inputs = answer_of (body_at bodies b) task inputs

-- the place of the body that a task fires
abbrev pub body_of : WorldSeen → ℕ → ℕ
body_of w task = slice_index_or w.places task 0

-- the world after an entry
abbrev pub performed : WorldSeen → List BodySeen → (lost : ℕ) → Action → WorldSeen
performed w bodies lost (End v task) = with_node w v (after_end (node_at w v) task)
performed w bodies lost (Opens j) = record w { host = host_at_beacon w.host; nodes = all_told w.nodes (beacon_now w) lost w.host_node }
performed w bodies lost (Slot slot message) = record w { nodes = after_slot w.nodes slot lost (sender_in w.nodes slot) (packet_from w.nodes slot (sender_in w.nodes slot)) }
performed w bodies lost (Start v task) =
    with_node w v (after_start (node_at w v) task (answer_at bodies (body_of w task) task (inputs_at_start (node_at w v) task)))

-- the bodies after an entry
abbrev pub bodies_performed : WorldSeen → List BodySeen → Action → List BodySeen
bodies_performed w bodies (End v task) = bodies
bodies_performed w bodies (Opens j) = bodies
bodies_performed w bodies (Slot slot message) = bodies
bodies_performed w bodies (Start v task) =
    let b = body_of w task in
    cond (starts_now (node_at w v) task) (slice_set bodies b (fired (body_at bodies b) task (inputs_at_start (node_at w v) task))) bodies

-- ---- what an entry answers

abbrev pub end_told : ℤ → ℕ → ℕ → Option ℤ → Happened
end_told at v task (Some value) = Ended at v task value
end_told at v task None = Void at v task

abbrev pub slot_told : ℤ → List State → ℕ → ℕ → (lost : ℕ) → Option ℕ → Option Packet → Happened
slot_told at nodes slot message lost (Some v) (Some packet) = Sent at v packet (bits_of (takers nodes slot lost v))
slot_told at nodes slot message lost v packet = Silent at message

abbrev pub told : WorldSeen → (lost : ℕ) → Action → Happened
told w lost (End v task) = end_told w.moment v task (value_now (node_at w v) task)
told w lost (Opens j) = Beaconed w.moment (beacon_now w) (bits_of (hearers (length w.nodes) lost w.host_node))
told w lost (Slot slot message) = slot_told w.moment w.nodes slot message lost (sender_in w.nodes slot) (packet_from w.nodes slot (sender_in w.nodes slot))
told w lost (Start v task) = cond (starts_now (node_at w v) task) (Started w.moment v task (inputs_at_start (node_at w v) task)) (Off w.moment v task)

-- ---- when an entry may be performed

-- the packet that is sent may be taken by each node
abbrev pub MayGive : List State → ℕ → Option Packet → Type 0
MayGive nodes slot None = Unit {0}
MayGive nodes slot (Some packet) = AllMayReceive nodes slot packet

abbrev pub MayPerform : WorldSeen → (bodies : ℕ) → (lost : ℕ) → Action → Type 0
MayPerform w bodies lost (End v task) = (v < length w.nodes) × (task < 1024)
MayPerform w bodies lost (Opens j) = AllMayBeTold w.nodes (beacon_now w) lost w.host_node
MayPerform w bodies lost (Slot slot message) = AllMayUseSlot w.nodes slot × MayGive w.nodes slot (packet_from w.nodes slot (sender_in w.nodes slot))
MayPerform w bodies lost (Start v task) = (v < length w.nodes) × (task < length w.places) × (body_of w task < bodies) × MayStartNow (node_at w v) task

-- ---- a whole Advance

-- what an Advance asks of the world: where no entry is left it may turn; then an entry is left; its ticks may pass; and it may be performed
pub record MayAdvance (w : WorldSeen) (bodies : ℕ) (lost : ℕ) : Type 0 where
  pub few : length w.nodes ≤ 64
  pub mode : mode_of w < length w.cycles
  pub may_turn : is_over w ≡ true → MayTurn w
  pub known : mode_of (arrived w) < length w.cycles
  pub left : (arrived w).place < length (cycle_at (arrived w) (mode_of (arrived w)))
  pub begin : (pos 0 ≤ℤ (arrived w).begin) × ((arrived w).begin ≤ℤ pos 9001000000000000000)
  pub tick : (pos 0 ≤ℤ (next_entry (arrived w)).tick) × ((next_entry (arrived w)).tick ≤ℤ pos 1000000000000)
  pub may_move : MayMove (arrived w) ((arrived w).begin +ℤ (next_entry (arrived w)).tick)
  pub may_perform : MayPerform (at_entry w) bodies lost (next_entry (arrived w)).action

-- the world, the bodies and the answer after an Advance
abbrev pub advanced : WorldSeen → List BodySeen → (lost : ℕ) → WorldSeen
advanced w bodies lost = performed (at_entry w) bodies lost (next_entry (arrived w)).action

abbrev pub bodies_advanced : WorldSeen → List BodySeen → List BodySeen
bodies_advanced w bodies = bodies_performed (at_entry w) bodies (next_entry (arrived w)).action

abbrev pub advance_told : WorldSeen → (lost : ℕ) → Happened
advance_told w lost = told (at_entry w) lost (next_entry (arrived w)).action

-- ---- requests and restarts

abbrev pub after_request : WorldSeen → ℕ → WorldSeen
after_request w m = record w { host = with_call w.host (request_call m) }

abbrev pub node_restarted : WorldSeen → ℕ → WorldSeen
node_restarted w v = with_node w v (after_restart (node_at w v))

-- the bodies after a reset of the task with this number, where it runs on node v
abbrev pub reset_one : List ℕ → List ℕ → ℕ → List BodySeen → ℕ → List BodySeen
reset_one owners places v bodies task =
    let b = slice_index_or places task 0 in
    cond (nat_eq (slice_index_or owners task 0) v) (slice_set bodies b (reset_for (body_at bodies b) task)) bodies

-- the bodies after a restart of node v: those of its tasks are reset, in order of the tasks' numbers
abbrev pub bodies_reset : WorldSeen → ℕ → List BodySeen → List BodySeen
bodies_reset w v bodies = fold (reset_one w.owners w.places v) bodies (below (length w.owners))
