-- Laws of worlds, over every list of events
use Rattle.std.specs.Prelude.{◌≡◌, ℕ, ◌<◌, cond, nat_eq, List, Option, Some, None, ℤ}
use Rattle.app_graph.specs.declared.mode_set.ModeSet.{ModeSet}
use Rattle.app_graph.specs.Validation.{KeepsRules}
use Rattle.sched_model.specs.declared.schedule.Schedule.{Schedule}
use Rattle.task_body.specs.Body.{BodySeen}
use Rattle.runtime_model.specs.Entries as plain
use Rattle.runtime_model.specs.Laws.{RequestsFit}
use Rattle.runtime_model.specs.Outcomes.{PlainEvent}
use Rattle.runtime_model.specs.Packets.{packet}
use Rattle.runtime_model.specs.Plans.{AreSchedules, sender_of}
use Rattle.runtime_model.specs.System.{plan_at}
use Rattle.runtime_model.specs.History.{history, spot_next, entry_at}
use Rattle.node_core.specs.declared.packet.Packet.{Packet}
use Rattle.world_core.specs.declared.cycle.Action.TheVariants.{Slot}
use Rattle.world_core.specs.Cycle.{kept_action}
use Rattle.world_core.specs.NodeStates.{sent_now}
use Rattle.world_core.specs.StandsFor.{StandsFor, system_with}
use Rattle.world_core.specs.Worlds.{WorldSeen, node_at}
use Rattle.world_core.specs.WorldSteps.{at_entry}

-- the packet of the message with this number, where there are values
abbrev pub with_values : ℕ → Option (List ℤ) → Option Packet
with_values number None = None
with_values number (Some xs) = Some (record { message = number; values = xs })

-- In every list of events at most one node sends in a slot: of all nodes, once the ticks up to the slot have passed, the rule of slots gives a packet on the state
-- of the message's sender alone, and there exactly where the definitions have a packet, with its values
abbrev pub OneSender : Type 0
OneSender = (set : ModeSet) (schedules : List Schedule) (made : List BodySeen) (x : WorldSeen) (now : List BodySeen) (es : List PlainEvent) →
    KeepsRules set → AreSchedules set schedules → RequestsFit (system_with set schedules made) es → StandsFor set schedules made x now es →
    let y = system_with set schedules made in
    let ds = history y es in
    let s = spot_next y ds in
    let p = plan_at y s.hyper.mode in
    (j i number message : ℕ) → (entry_at y s).action ≡ plain.slot j i → kept_action p (plain.slot j i) ≡ Slot number message → (v : ℕ) → v < y.nodes →
    sent_now (node_at (at_entry x) v) number ≡ cond (nat_eq (sender_of p i) v) (with_values message (packet p s j i ds)) None
