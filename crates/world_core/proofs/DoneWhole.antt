-- What a step did with the inputs of a start is what happened
use Rattle.std.proofs.Common.{◌≡◌, ℕ, Bool, true, false, cond, List, Option, Some, None, refl, sym, subst, ◌∙◌, ap, ℤ}
use Rattle.node_core.specs.declared.packet.Packet.{Packet}
use Rattle.task_body.specs.Body.{BodySeen}
use Rattle.world_core.specs.declared.cycle.Action.{Action}
use Rattle.world_core.specs.declared.cycle.Action.TheVariants.{End, Beacon as Opens, Slot, Start}
use Rattle.world_core.specs.declared.happened.Done.{Done}
use Rattle.world_core.specs.declared.happened.Done.TheVariants.{Started as DoneStarted, Off as DoneOff, Requested as DoneRequested, Restarted as DoneRestarted}
use Rattle.world_core.specs.declared.happened.Event.{Event}
use Rattle.world_core.specs.declared.happened.Happened.{Happened}
use Rattle.world_core.specs.declared.happened.Happened.TheVariants.{Started, Off, Requested, Restarted}
use Rattle.world_core.specs.declared.state.State.{State}
use Rattle.world_core.specs.Done.{whole}
use Rattle.world_core.specs.DoneSteps.{advance_done, end_done, entry_done, inputs_advanced, inputs_performed, slot_done}
use Rattle.world_core.specs.Nodes.{sender_in}
use Rattle.world_core.specs.NodeStates.{inputs_at_start, starts_now, value_now}
use Rattle.world_core.specs.WorldGoesOn.{GoesOn}
use Rattle.world_core.specs.Worlds.{WorldSeen, node_at}
use Rattle.world_core.specs.WorldSteps.{advance_told, arrived, at_entry, end_told, next_entry, packet_from, slot_told, told}

end_whole : (at : ℤ) (v task : ℕ) (o : Option ℤ) (inputs : List (Option ℤ)) → whole (end_done at v task o) inputs ≡ end_told at v task o
end_whole at v task (Some value) inputs = refl
end_whole at v task None inputs = refl

slot_whole : (at : ℤ) (nodes : List State) (slot message lost : ℕ) (o : Option ℕ) (p : Option Packet) (inputs : List (Option ℤ)) →
    whole (slot_done at nodes slot message lost o p) inputs ≡ slot_told at nodes slot message lost o p
slot_whole at nodes slot message lost (Some v) (Some packet) inputs = refl
slot_whole at nodes slot message lost (Some v) None inputs = refl
slot_whole at nodes slot message lost None p inputs = refl

start_whole : (at : ℤ) (v task : ℕ) (b : Bool) (now inputs : List (Option ℤ)) →
    whole (cond b (DoneStarted at v task) (DoneOff at v task)) (cond b now inputs) ≡ cond b (Started at v task now) (Off at v task)
start_whole at v task true now inputs = refl
start_whole at v task false now inputs = refl

entry_whole : (w : WorldSeen) (lost : ℕ) (a : Action) (inputs : List (Option ℤ)) → whole (entry_done w lost a) (inputs_performed w a inputs) ≡ told w lost a
entry_whole w lost (End v task) inputs = end_whole w.moment v task (value_now (node_at w v) task) inputs
entry_whole w lost (Opens j) inputs = refl
entry_whole w lost (Slot slot message) inputs = slot_whole w.moment w.nodes slot message lost (sender_in w.nodes slot) (packet_from w.nodes slot (sender_in w.nodes slot)) inputs
entry_whole w lost (Start v task) inputs = start_whole w.moment v task (starts_now (node_at w v) task) (inputs_at_start (node_at w v) task) inputs

-- an Advance
pub advance_whole : (w : WorldSeen) (lost : ℕ) (answer : Done) (old new : List (Option ℤ)) →
    answer ≡ advance_done w lost → new ≡ inputs_advanced w old → whole answer new ≡ advance_told w lost
advance_whole w lost answer old new is are =
    ap (λ (d : Done). whole d new) is
    ∙ ap (whole (advance_done w lost)) are
    ∙ entry_whole (at_entry w) lost (next_entry (arrived w)).action old

-- a request, and a restart
pub request_whole : (at : ℤ) (mode : ℕ) (answer : Done) (inputs : List (Option ℤ)) → answer ≡ DoneRequested at mode → whole answer inputs ≡ Requested at mode
request_whole at mode answer inputs is = ap (λ (d : Done). whole d inputs) is

pub restart_whole : (at : ℤ) (v : ℕ) (answer : Done) (inputs : List (Option ℤ)) → answer ≡ DoneRestarted at v → whole answer inputs ≡ Restarted at v
restart_whole at v answer inputs is = ap (λ (d : Done). whole d inputs) is

-- the same answer, said whole
pub goes_on_same : (old new : WorldSeen) (before after : List BodySeen) (event : Event) (answer same : Happened) → answer ≡ same → GoesOn old before new after event same → GoesOn old before new after event answer
goes_on_same old new before after event answer same is goes = subst (λ (h : Happened). GoesOn old before new after event h) (sym is) goes
