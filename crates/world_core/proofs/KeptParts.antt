-- What a step leaves as it is
use Rattle.std.proofs.Common.{◌≡◌, ℕ, List, length, map, refl, sym, ◌∙◌, subst, arith}
use Rattle.std.specs.Prelude.{Option, Some, None}
use Rattle.std.proofs.lemmas.Int.{ints}
use Rattle.std.proofs.lemmas.List.{length-map, length-set}
use Rattle.sched_model.specs.Numbers.{below}
use Rattle.sched_model.proofs.Lists.{length-below}
use Rattle.task_body.specs.Body.{BodySeen}
use Rattle.runtime_model.specs.System.{plan_at, system_of}
use Rattle.runtime_model.specs.History.{history, spot_next, entry_at}
use Rattle.runtime_model.proofs.FirstTicks.{moments_rise}
use Rattle.node_core.specs.declared.packet.Packet.{Packet}
use Rattle.world_core.specs.declared.cycle.Action.{Action}
use Rattle.world_core.specs.declared.cycle.Action.TheVariants.{End, Beacon as Opens, Slot, Start}
use Rattle.world_core.specs.declared.state.State.{State}
use Rattle.world_core.specs.Cycle.{kept_action}
use Rattle.world_core.specs.KeptWorlds.{IsWorld}
use Rattle.world_core.specs.WorldKeeps.{StaysSame}
use Rattle.world_core.specs.Worlds.{WorldSeen}
use Rattle.world_core.specs.WorldSteps.{advanced, after_request, after_slot, node_restarted, packet_from, performed}
use Rattle.world_core.specs.Nodes.{sender_in}
use Rattle.world_core.proofs.Advances.{advanced_is}
use Rattle.world_core.proofs.AdvancedWorlds.{is_small, same_places}
use Rattle.world_core.proofs.Arriving.{entered}
use Rattle.world_core.proofs.EntryWorlds.{nodes_there}
use Rattle.world_core.proofs.WorldRight.{all, right_world}

same_cycles : (x : WorldSeen) (bodies : List BodySeen) (lost : ℕ) (a : Action) → (performed x bodies lost a).cycles ≡ x.cycles
same_cycles x bodies lost (End v task) = refl
same_cycles x bodies lost (Opens j) = refl
same_cycles x bodies lost (Slot number message) = refl
same_cycles x bodies lost (Start v task) = refl

same_host : (x : WorldSeen) (bodies : List BodySeen) (lost : ℕ) (a : Action) → (performed x bodies lost a).host_node ≡ x.host_node
same_host x bodies lost (End v task) = refl
same_host x bodies lost (Opens j) = refl
same_host x bodies lost (Slot number message) = refl
same_host x bodies lost (Start v task) = refl

same_moment : (x : WorldSeen) (bodies : List BodySeen) (lost : ℕ) (a : Action) → (performed x bodies lost a).moment ≡ x.moment
same_moment x bodies lost (End v task) = refl
same_moment x bodies lost (Opens j) = refl
same_moment x bodies lost (Slot number message) = refl
same_moment x bodies lost (Start v task) = refl

length_below_map : {X : Type 0} (f : ℕ → X) (n : ℕ) → length (map f (below n)) ≡ n
length_below_map f n = length-map (below n) f ∙ length-below n

slot_count : (nodes : List State) (slot lost : ℕ) (v : Option ℕ) (packet : Option Packet) → length (after_slot nodes slot lost v packet) ≡ length nodes
slot_count nodes slot lost None packet = refl
slot_count nodes slot lost (Some v) None = refl
slot_count nodes slot lost (Some v) (Some packet) = length_below_map _ (length nodes)

same_count : (x : WorldSeen) (bodies : List BodySeen) (lost : ℕ) (a : Action) → length (performed x bodies lost a).nodes ≡ length x.nodes
same_count x bodies lost (End v task) = length-set x.nodes v _
same_count x bodies lost (Opens j) = length_below_map _ (length x.nodes)
same_count x bodies lost (Slot number message) = slot_count x.nodes number lost (sender_in x.nodes number) (packet_from x.nodes number (sender_in x.nodes number))
same_count x bodies lost (Start v task) = length-set x.nodes v _

pub advance_keeps : (x : WorldSeen) (k : IsWorld x) (bodies : List BodySeen) (lost : ℕ) → StaysSame x (advanced x bodies lost)
advance_keeps x k bodies lost =
    let y = system_of k.set k.schedules k.answers in
    let w = right_world k.set k.schedules k.answers k.rules k.right in
    let few = is_small k.set k.schedules k.rules k.right k.answers in
    let here = entered y w k.events k.requests lost x k.stands in
    let a = kept_action (plan_at y (spot_next y (history y k.events)).hyper.mode) (entry_at y (spot_next y (history y k.events))).action in
    let rise = moments_rise y (all y w) k.events lost k.requests in
    let limit = (all y w k.events k.requests).valid.hyper_limit in
    subst (StaysSame x) (sym (advanced_is y w few k.events k.requests lost x k.stands bodies)) (record {
      cycles = same_cycles here bodies lost a;
      nodes = same_count here bodies lost a ∙ nodes_there y w k.events k.requests lost x k.stands ∙ sym k.stands.plans.nodes;
      host_node = same_host here bodies lost a;
      places = same_places here bodies lost a;
      later = omega (arith, ints, rise.0, k.stands.time.moment, same_moment here bodies lost a);
      within = omega (arith, ints, rise.1, limit, k.stands.time.moment, same_moment here bodies lost a);
    })

pub request_keeps : (x : WorldSeen) (m : ℕ) → StaysSame x (after_request x m)
request_keeps x m = record { cycles = refl; nodes = refl; host_node = refl; places = refl; later = omega (arith, ints); within = omega (arith, ints) }

pub restart_keeps : (x : WorldSeen) (v : ℕ) → StaysSame x (node_restarted x v)
restart_keeps x v = record { cycles = refl; nodes = length-set x.nodes v _; host_node = refl; places = refl; later = omega (arith, ints); within = omega (arith, ints) }

-- the same of equal worlds
pub same_after : (x x0 z z0 : WorldSeen) → x ≡ x0 → z0 ≡ z → StaysSame x z → StaysSame x0 z0
same_after x x0 z z0 e f h = subst (λ (a : WorldSeen). StaysSame a z0) e (subst (StaysSame x) (sym f) h)
