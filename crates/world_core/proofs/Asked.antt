-- What a step answers is asked of the nodes
use Rattle.std.proofs.Common.{◌≡◌, ℕ, Bool, true, false, cond, List, Option, Some, None, refl, sym, subst, ℤ}
use Rattle.node_core.specs.declared.packet.Packet.{Packet}
use Rattle.world_core.specs.declared.cycle.Action.{Action}
use Rattle.world_core.specs.declared.cycle.Action.TheVariants.{End, Beacon as Opens, Slot, Start}
use Rattle.world_core.specs.declared.happened.Happened.{Happened}
use Rattle.world_core.specs.declared.happened.Happened.TheVariants.{Started, Off, Requested, Restarted}
use Rattle.world_core.specs.Asking.{IsAsked}
use Rattle.world_core.specs.Nodes.{sender_in}
use Rattle.world_core.specs.NodeStates.{inputs_at_start, starts_now, value_now}
use Rattle.world_core.specs.Worlds.{WorldSeen, node_at}
use Rattle.world_core.specs.WorldSteps.{advance_told, arrived, at_entry, end_told, next_entry, packet_from, slot_told, told}

module _ (w : WorldSeen) where
  abbrev x : WorldSeen
  x = at_entry w

  end_asked : (v task : ℕ) (o : Option ℤ) → value_now (node_at x v) task ≡ o → IsAsked w (end_told x.moment v task o)
  end_asked v task (Some value) is = is
  end_asked v task None is = tt

  slot_asked : (slot message lost : ℕ) (o : Option ℕ) (p : Option Packet) → (next_entry (arrived w)).action ≡ Slot slot message → packet_from x.nodes slot o ≡ p → IsAsked w (slot_told x.moment x.nodes slot message lost o p)
  slot_asked slot message lost (Some v) (Some packet) action is = (slot, message, action, is)
  slot_asked slot message lost (Some v) None action is = tt
  slot_asked slot message lost None p action is = tt

  start_asked : (v task : ℕ) (b : Bool) → starts_now (node_at x v) task ≡ b → IsAsked w (cond b (Started x.moment v task (inputs_at_start (node_at x v) task)) (Off x.moment v task))
  start_asked v task true is = (is, refl)
  start_asked v task false is = tt

  entry_asked : (lost : ℕ) (a : Action) → (next_entry (arrived w)).action ≡ a → IsAsked w (told x lost a)
  entry_asked lost (End v task) is = end_asked v task (value_now (node_at x v) task) refl
  entry_asked lost (Opens j) is = tt
  entry_asked lost (Slot slot message) is = slot_asked slot message lost (sender_in x.nodes slot) (packet_from x.nodes slot (sender_in x.nodes slot)) is refl
  entry_asked lost (Start v task) is = start_asked v task (starts_now (node_at x v) task) refl

-- an Advance answers what the nodes say
pub advance_asked : (w : WorldSeen) (lost : ℕ) → IsAsked w (advance_told w lost)
advance_asked w lost = entry_asked w lost (next_entry (arrived w)).action refl

-- so does the step of the world that keeps it
pub step_asked : (kept w : WorldSeen) (lost : ℕ) (answer : Happened) → kept ≡ w → answer ≡ advance_told kept lost → IsAsked w answer
step_asked kept w lost answer same is = subst (λ (z : WorldSeen). IsAsked z answer) same (subst (IsAsked kept) (sym is) (advance_asked kept lost))

-- other events ask nobody
pub request_asked : (w : WorldSeen) (at : ℤ) (mode : ℕ) (answer : Happened) → answer ≡ Requested at mode → IsAsked w answer
request_asked w at mode answer is = subst (IsAsked w) (sym is) tt

pub restart_asked : (w : WorldSeen) (at : ℤ) (v : ℕ) (answer : Happened) → answer ≡ Restarted at v → IsAsked w answer
restart_asked w at v answer is = subst (IsAsked w) (sym is) tt
