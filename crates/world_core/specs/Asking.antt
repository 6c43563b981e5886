-- What a step answers is what the nodes themselves say
use Rattle.std.specs.Prelude.{◌≡◌, ℕ, true, Some}
use Rattle.world_core.specs.declared.cycle.Action.TheVariants.{Slot}
use Rattle.world_core.specs.declared.happened.Happened.{Happened}
use Rattle.world_core.specs.declared.happened.Happened.TheVariants.{Beacon, Sent, Silent, Started, Off, Ended, Void, Requested, Restarted}
use Rattle.world_core.specs.NodeStates.{inputs_at_start, sent_now, starts_now, value_now}
use Rattle.world_core.specs.Worlds.{WorldSeen, node_at}
use Rattle.world_core.specs.WorldSteps.{arrived, at_entry, next_entry}

-- The packet that was sent is what the rule of the slot gives on the sender's state once the ticks up to the slot have passed;
-- so are the inputs of a start by the rule of starts, and the value of an end by that of ends
abbrev pub IsAsked : WorldSeen → Happened → Type 0
IsAsked w (Sent at v packet taken) =
    (slot : ℕ) × (message : ℕ) × ((next_entry (arrived w)).action ≡ Slot slot message) × (sent_now (node_at (at_entry w) v) slot ≡ Some packet)
IsAsked w (Started at v task inputs) = (starts_now (node_at (at_entry w) v) task ≡ true) × (inputs_at_start (node_at (at_entry w) v) task ≡ inputs)
IsAsked w (Ended at v task value) = value_now (node_at (at_entry w) v) task ≡ Some value
IsAsked w (Beacon at beacon heard) = Unit {0}
IsAsked w (Silent at message) = Unit {0}
IsAsked w (Off at v task) = Unit {0}
IsAsked w (Void at v task) = Unit {0}
IsAsked w (Requested at mode) = Unit {0}
IsAsked w (Restarted at v) = Unit {0}
