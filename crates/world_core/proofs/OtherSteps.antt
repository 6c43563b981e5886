-- A request and a restart of a world with its bodies: it goes on to stand for the events with them
use Rattle.std.proofs.Common.{◌≡◌, ℕ, ◌<◌, List, ◌∷◌, length, map, refl, sym, ◌∙◌, ap, arith}
use Rattle.std.proofs.lemmas.List.{length-map}
use Rattle.app_graph.specs.declared.mode_set.ModeSet.{ModeSet}
use Rattle.app_graph.specs.Validation.{KeepsRules}
use Rattle.sched_model.specs.declared.schedule.Schedule.{Schedule}
use Rattle.task_body.specs.Body.{BodySeen}
use Rattle.runtime_model.specs.Bodies.{by_bodies}
use Rattle.runtime_model.specs.Entries.{cycle}
use Rattle.runtime_model.specs.Laws.{RequestsFit}
use Rattle.runtime_model.specs.Outcomes.{PlainEvent, request, restart}
use Rattle.runtime_model.specs.Plans.{AreSchedules, Plan, plans_of}
use Rattle.runtime_model.specs.System.{System, system_of}
use Rattle.runtime_model.specs.History.{history, step_of}
use Rattle.world_core.specs.declared.happened.Happened.TheVariants.{Requested, Restarted}
use Rattle.world_core.specs.Cycle.{kept_entry}
use Rattle.world_core.specs.Happened.{happened}
use Rattle.world_core.specs.KeptWorlds.{IsWorld}
use Rattle.world_core.specs.Standing.{KeepsPlans}
use Rattle.world_core.specs.StandsFor.{StandsFor, bodies_of, system_with}
use Rattle.world_core.specs.Worlds.{WorldSeen}
use Rattle.world_core.specs.WorldSteps.{after_request, bodies_reset, node_restarted}
use Rattle.world_core.proofs.BodySteps.{bodies_kept, bodies_restarted}
use Rattle.world_core.proofs.RequestSteps.{after_request_stands, request_told}
use Rattle.world_core.proofs.RestartSteps.{node_restarted_stands, restart_told}
use Rattle.world_core.proofs.WorldRight.{RightWorld, right_world}

-- a world has a cycle for each mode
pub cycle_count : (y : System) (w : WorldSeen) → KeepsPlans y w → length w.cycles ≡ length y.plans
cycle_count y w k = ap length k.cycles ∙ length-map y.plans (λ (p : Plan). map (kept_entry p) (cycle y.nodes p))

-- ---- what is kept of every world

pub request_kept : (w : WorldSeen) (m : ℕ) → m < length w.cycles → IsWorld w → IsWorld (after_request w m)
request_kept w m l k =
    let y = system_of k.set k.schedules k.answers in
    let l' : m < length y.plans = omega (arith, l, cycle_count y w k.stands.plans) in
    record {
      set = k.set;
      schedules = k.schedules;
      answers = k.answers;
      events = request m ∷ k.events;
      rules = k.rules;
      right = k.right;
      requests = (l', k.requests);
      stands = after_request_stands y (right_world k.set k.schedules k.answers k.rules k.right) k.events k.requests m l' w k.stands;
      one_each = k.one_each;
    }

pub restart_kept : (w : WorldSeen) (v : ℕ) → v < length w.nodes → IsWorld w → IsWorld (node_restarted w v)
restart_kept w v l k =
    let y = system_of k.set k.schedules k.answers in
    let l' : v < y.nodes = omega (arith, l, k.stands.plans.nodes) in
    record {
      set = k.set;
      schedules = k.schedules;
      answers = k.answers;
      events = restart v ∷ k.events;
      rules = k.rules;
      right = k.right;
      requests = k.requests;
      stands = node_restarted_stands y (right_world k.set k.schedules k.answers k.rules k.right) k.events k.requests v l' w k.stands;
      one_each = k.one_each;
    }

-- ---- with bodies

module _ (set : ModeSet) (schedules : List Schedule) (made : List BodySeen) (keeps : KeepsRules set) (are : AreSchedules set schedules) where
  abbrev y : System
  y = system_with set schedules made

  right : RightWorld y
  right = right_world set schedules (by_bodies (plans_of set schedules) (bodies_of set made)) keeps are

  module _ (x : WorldSeen) (now : List BodySeen) (es : List PlainEvent) (rf : RequestsFit y es) (st : StandsFor set schedules made x now es) where
    pub request_stands_for : (m : ℕ) → m < length y.plans → StandsFor set schedules made (after_request x m) now (request m ∷ es)
    request_stands_for m l =
        let ds = history y es in
        record {
          world = after_request_stands y right es rf m l x st.world;
          places = st.places;
          bodies = st.bodies ∙ sym (bodies_kept (plans_of set schedules) (bodies_of set made) (step_of y (request m) ds) ds refl);
        }

    pub request_tells : (m : ℕ) → m < length y.plans → Requested x.moment m ≡ happened y (step_of y (request m) (history y es))
    request_tells m l = request_told y right es rf m l x st.world

    pub restart_stands_for : (v : ℕ) → v < y.nodes → StandsFor set schedules made (node_restarted x v) (bodies_reset x v now) (restart v ∷ es)
    restart_stands_for v l =
        let ds = history y es in
        record {
          world = node_restarted_stands y right es rf v l x st.world;
          places = st.places;
          bodies = ap (bodies_reset x v) st.bodies
              ∙ sym (bodies_restarted set made keeps schedules x.owners x.places st.world.plans.owners st.places (step_of y (restart v) ds) ds v refl);
        }

    pub restart_tells : (v : ℕ) → v < y.nodes → Restarted x.moment v ≡ happened y (step_of y (restart v) (history y es))
    restart_tells v l = restart_told y right es rf v l x st.world
