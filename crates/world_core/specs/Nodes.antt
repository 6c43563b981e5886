-- What a beacon, ticks and a packet do to all nodes: the loops of the medium, by the places of the nodes
use Rattle.std.specs.Prelude.{ℕ, Bool, cond, ◌&&◌, ◌≡◌, ◌<◌, true, false, List, length, map, filter, slice_index_or, Option, is_some, ℤ}
use Rattle.std.specs.List.{position}
use Rattle.sched_model.specs.Numbers.{below}
use Rattle.beacon_codec.specs.declared.packet.Beacon.{Beacon}
use Rattle.node_core.specs.declared.packet.Packet.{Packet}
use Rattle.runtime_model.specs.Packets.{reached}
use Rattle.world_core.specs.declared.state.State.{State}
use Rattle.world_core.specs.NodeStates.{MayHearNow, MayMissNow, MayPassNow, MayUseSlotNow, MayReceiveNow, no_state, after_beacon, after_missed, after_ticks, after_packet, sent_now, takes_now}

-- the node at this place
abbrev pub at : List State → ℕ → State
at nodes v = slice_index_or nodes v no_state

-- ---- ticks

abbrev pub all_after : List State → ℤ → List State
all_after nodes ticks = map (λ n. after_ticks n ticks) nodes

abbrev pub AllMayPass : List State → ℤ → Type 0
AllMayPass nodes ticks = (v : ℕ) → v < length nodes → MayPassNow (at nodes v) ticks

-- ---- a beacon of the host, which this set of nodes loses

abbrev pub heard_or_missed : Bool → Beacon → State → State
heard_or_missed hears b n = cond hears (after_beacon n b) (after_missed n)

abbrev pub all_told : List State → Beacon → (lost host : ℕ) → List State
all_told nodes b lost host = map (λ v. heard_or_missed (reached lost host v) b (at nodes v)) (below (length nodes))

abbrev pub hearers : ℕ → (lost host : ℕ) → List ℕ
hearers n lost host = filter (reached lost host) (below n)

abbrev pub MayHearOrMiss : Bool → Beacon → State → Type 0
MayHearOrMiss hears b n = (hears ≡ true → MayHearNow n b) × (hears ≡ false → MayMissNow n)

abbrev pub AllMayBeTold : List State → Beacon → (lost host : ℕ) → Type 0
AllMayBeTold nodes b lost host = (v : ℕ) → v < length nodes → MayHearOrMiss (reached lost host v) b (at nodes v)

-- ---- a slot

-- the first node that sends in a slot
abbrev pub sender_in : List State → ℕ → Option ℕ
sender_in nodes slot = position (λ n. is_some (sent_now n slot)) nodes

abbrev pub AllMayUseSlot : List State → ℕ → Type 0
AllMayUseSlot nodes slot = (v : ℕ) → v < length nodes → MayUseSlotNow (at nodes v) slot

-- the packet of the slot, which this set of nodes loses
abbrev pub all_given : List State → ℕ → Packet → (lost sender : ℕ) → List State
all_given nodes slot packet lost sender =
    map (λ v. cond (reached lost sender v) (after_packet (at nodes v) slot packet) (at nodes v)) (below (length nodes))

abbrev pub takers : List State → ℕ → (lost sender : ℕ) → List ℕ
takers nodes slot lost sender = filter (λ v. reached lost sender v && takes_now (at nodes v) slot) (below (length nodes))

abbrev pub AllMayReceive : List State → ℕ → Packet → Type 0
AllMayReceive nodes slot packet = (v : ℕ) → v < length nodes → MayReceiveNow (at nodes v) slot packet
