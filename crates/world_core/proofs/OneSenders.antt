-- At most one node sends in a slot
use Rattle.std.proofs.Common.{◌≡◌, ℕ, List, refl, sym, ◌∙◌, ap, ℤ, cond}
use Rattle.std.specs.Prelude.{nat_eq, Option, Some, None}
use Rattle.sched_model.specs.PlainMode.{message_at}
use Rattle.runtime_model.specs.Bodies.{by_bodies}
use Rattle.runtime_model.specs.Packets.{packet}
use Rattle.runtime_model.specs.Plans.{plans_of, sender_of}
use Rattle.runtime_model.specs.System.{plan_at}
use Rattle.runtime_model.specs.History.{history, spot_next}
use Rattle.node_core.specs.declared.packet.Packet.{Packet}
use Rattle.world_core.specs.declared.cycle.Action.{Action}
use Rattle.world_core.specs.declared.cycle.Action.TheVariants.{End, Beacon, Slot, Start}
use Rattle.world_core.specs.Laws.{OneSender, with_values}
use Rattle.world_core.specs.NodeStates.{sent_now}
use Rattle.world_core.specs.StandsFor.{bodies_of, system_with}
use Rattle.world_core.specs.Worlds.{WorldSeen, node_at}
use Rattle.world_core.proofs.Arriving.{entered, enters}
use Rattle.world_core.proofs.SlotSteps.{packet_with}
use Rattle.world_core.proofs.SlotWorlds.{sends}
use Rattle.world_core.proofs.WorldRight.{right_world}

same_packet : (m n : ℕ) → m ≡ n → (o : Option (List ℤ)) → packet_with m o ≡ with_values n o
same_packet m n e None = refl
same_packet m n e (Some xs) = ap (λ (k : ℕ). Some (record { message = k; values = xs })) e

abbrev slot_number : Action → ℕ
slot_number (End v task) = 0
slot_number (Beacon j) = 0
slot_number (Slot number message) = number
slot_number (Start v task) = 0

abbrev slot_message : Action → ℕ
slot_message (End v task) = 0
slot_message (Beacon j) = 0
slot_message (Slot number message) = message
slot_message (Start v task) = 0

pub one_sender : OneSender
one_sender set schedules made x now es keeps are rf st j i number message act is v l =
    let y = system_with set schedules made in
    let w = right_world set schedules (by_bodies (plans_of set schedules) (bodies_of set made)) keeps are in
    let ds = history y es in
    let s = spot_next y ds in
    let p = plan_at y s.hyper.mode in
    ap (λ (z : WorldSeen). sent_now (node_at z v) number) (enters y w es rf 0 x st.world)
    ∙ ap (sent_now (node_at (entered y w es rf 0 x st.world) v)) (sym (ap slot_number is))
    ∙ sends y w es rf 0 x st.world j i act v l
    ∙ ap (λ (o : Option Packet). cond (nat_eq (sender_of p i) v) o None) (same_packet (message_at p.mode i).number message (ap slot_message is) (packet p s j i ds))
