-- What each step of a world answers, with the inputs of a start apart: the rules of its private calls
use Rattle.std.specs.Prelude.{ℕ, cond, List, length, Option, Some, None, ℤ}
use Rattle.node_core.specs.declared.packet.Packet.{Packet}
use Rattle.world_core.specs.declared.cycle.Action.{Action}
use Rattle.world_core.specs.declared.cycle.Action.TheVariants.{End, Beacon as Opens, Slot, Start}
use Rattle.world_core.specs.declared.happened.Done.{Done}
use Rattle.world_core.specs.declared.happened.Done.TheVariants.{Beacon as Beaconed, Sent, Silent, Started, Off, Ended, Void}
use Rattle.world_core.specs.declared.state.State.{State}
use Rattle.world_core.specs.Happened.{bits_of}
use Rattle.world_core.specs.Nodes.{hearers, sender_in, takers}
use Rattle.world_core.specs.NodeStates.{inputs_at_start, starts_now, value_now}
use Rattle.world_core.specs.Worlds.{WorldSeen, node_at}
use Rattle.world_core.specs.WorldSteps.{arrived, at_entry, beacon_now, next_entry, packet_from}

abbrev pub end_done : ℤ → ℕ → ℕ → Option ℤ → Done
end_done at v task (Some value) = Ended at v task value
end_done at v task None = Void at v task

abbrev pub slot_done : ℤ → List State → ℕ → ℕ → (lost : ℕ) → Option ℕ → Option Packet → Done
slot_done at nodes slot message lost (Some v) (Some packet) = Sent at v packet (bits_of (takers nodes slot lost v))
slot_done at nodes slot message lost v packet = Silent at message

-- what an entry answers
abbrev pub entry_done : WorldSeen → (lost : ℕ) → Action → Done
entry_done w lost (End v task) = end_done w.moment v task (value_now (node_at w v) task)
entry_done w lost (Opens j) = Beaconed w.moment (beacon_now w) (bits_of (hearers (length w.nodes) lost w.host_node))
entry_done w lost (Slot slot message) = slot_done w.moment w.nodes slot message lost (sender_in w.nodes slot) (packet_from w.nodes slot (sender_in w.nodes slot))
entry_done w lost (Start v task) = cond (starts_now (node_at w v) task) (Started w.moment v task) (Off w.moment v task)

-- the inputs after an entry: those of a start come in place of others
abbrev pub inputs_performed : WorldSeen → Action → List (Option ℤ) → List (Option ℤ)
inputs_performed w (End v task) inputs = inputs
inputs_performed w (Opens j) inputs = inputs
inputs_performed w (Slot slot message) inputs = inputs
inputs_performed w (Start v task) inputs = cond (starts_now (node_at w v) task) (inputs_at_start (node_at w v) task) inputs

-- a whole Advance
abbrev pub advance_done : WorldSeen → (lost : ℕ) → Done
advance_done w lost = entry_done (at_entry w) lost (next_entry (arrived w)).action

abbrev pub inputs_advanced : WorldSeen → List (Option ℤ) → List (Option ℤ)
inputs_advanced w inputs = inputs_performed (at_entry w) (next_entry (arrived w)).action inputs
