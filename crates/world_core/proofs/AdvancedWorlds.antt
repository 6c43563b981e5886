-- An Advance of a world with its bodies, and what is kept of every world
use Rattle.std.proofs.Common.{◌≡◌, ℕ, ◌<◌, ◌≤◌, Bool, true, false, cond, List, [], ◌∷◌, length, get_or, map, refl, sym, ◌∙◌, ap, subst, arith, pos, ℤ, ◌≤ℤ◌}
use Rattle.std.specs.Prelude.{Option, slice_set}
use Rattle.app_graph.specs.declared.mode_set.ModeSet.{ModeSet}
use Rattle.app_graph.specs.Validation.{KeepsRules}
use Rattle.app_graph.proofs.Kept.{set_nodes}
use Rattle.sched_model.specs.declared.schedule.Schedule.{Schedule}
use Rattle.sched_model.specs.PlainMode.{PlainMode, plain_at, task_at}
use Rattle.sched_model.proofs.LimitedModes.{mode_at_limited}
use Rattle.sched_model.proofs.Lists.{get_or-map_below}
use Rattle.task_body.specs.Body.{BodySeen, body_at, fired}
use Rattle.runtime_model.specs.Bodies.{Bodies, by_bodies}
use Rattle.runtime_model.specs.Entries as plain
use Rattle.runtime_model.specs.Inputs.{inputs}
use Rattle.runtime_model.specs.Laws.{RequestsFit}
use Rattle.runtime_model.specs.Outcomes.{PlainEvent, advance, Step, Spot}
use Rattle.runtime_model.specs.Placement.{run_at}
use Rattle.runtime_model.specs.Plans.{AreSchedules, Plan, node_of, plan_of, plans_of}
use Rattle.runtime_model.specs.System.{System, no_plan, plan_at, system_of}
use Rattle.runtime_model.specs.History.{history, step_of, spot_next, entry_at}
use Rattle.runtime_model.proofs.RightSets.{plan_count}
use Rattle.runtime_model.proofs.SetRules.{host_known}
use Rattle.world_core.specs.declared.cycle.Action.{Action}
use Rattle.world_core.specs.declared.state.State.{State}
use Rattle.world_core.specs.declared.cycle.Action.TheVariants.{End, Beacon as Opens, Slot, Start}
use Rattle.world_core.specs.Cycle.{kept_action}
use Rattle.world_core.specs.Happened.{happened}
use Rattle.world_core.specs.KeptWorlds.{IsWorld}
use Rattle.world_core.specs.NodeStates.{inputs_at_start, starts_now}
use Rattle.world_core.specs.Nodes.{at}
use Rattle.world_core.specs.StandsFor.{StandsFor, HaveBodies, bodies_after, bodies_of, body_names, place_of_body, system_with}
use Rattle.world_core.specs.Worlds.{WorldSeen}
use Rattle.world_core.specs.WorldSteps.{MayAdvance, advance_told, advanced, answer_at, bodies_advanced, bodies_performed, body_of, performed}
use Rattle.world_core.proofs.Advances.{Small, advance_happened, advance_stands, advanced_is, bodies_are, may_advance}
use Rattle.world_core.proofs.AdvancedBodies.{advance_keeps_bodies, start_fires, is_start}
use Rattle.world_core.proofs.Arriving.{entered, some_mode}
use Rattle.world_core.proofs.BodySteps.{answers_are, number_named, place_is}
use Rattle.world_core.proofs.EntryWorlds.{entry_node, finds}
use Rattle.world_core.proofs.SameHistories.{answering, answering_gives}
use Rattle.world_core.proofs.StartSteps.{start_on, starts_is}
use Rattle.world_core.proofs.StartWorlds.{ins_are, start_node}
use Rattle.world_core.proofs.TaskNumbers.{names_count, owners_of_plans}
use Rattle.world_core.proofs.WorldRight.{RightWorld, right_world}

-- ---- what an entry leaves as it is

pub same_places : (x : WorldSeen) (bodies : List BodySeen) (lost : ℕ) (a : Action) → (performed x bodies lost a).places ≡ x.places
same_places x bodies lost (End v task) = refl
same_places x bodies lost (Opens j) = refl
same_places x bodies lost (Slot number message) = refl
same_places x bodies lost (Start v task) = refl

pub same_owners : (x : WorldSeen) (bodies : List BodySeen) (lost : ℕ) (a : Action) → (performed x bodies lost a).owners ≡ x.owners
same_owners x bodies lost (End v task) = refl
same_owners x bodies lost (Opens j) = refl
same_owners x bodies lost (Slot number message) = refl
same_owners x bodies lost (Start v task) = refl

module _ (set : ModeSet) (schedules : List Schedule) (keeps : KeepsRules set) (are : AreSchedules set schedules) where
  nodes_few : length set.nodes ≤ 64
  nodes_few = subst (λ (s : ModeSet). length s.nodes ≤ 64) (sym keeps.2) (set_nodes keeps.0 keeps.1)

  mode_is : (m : ℕ) → m < length set.modes → (get_or (plans_of set schedules) m no_plan).mode ≡ plain_at set m
  mode_is m l = ap (λ (p : Plan). p.mode) (get_or-map_below (plan_of set schedules) (length set.modes) m no_plan l)

  -- the system of a set is small
  pub is_small : (answers : List Step → ℕ → List (Option ℤ) → ℤ) → Small (system_of set schedules answers)
  is_small answers = record {
    some = let h = host_known set keeps in omega (arith, h);
    nodes = nodes_few;
    tasks = λ m l.
        let l' : m < length set.modes = omega (arith, l, plan_count set schedules) in
        subst (λ (q : PlainMode). length q.tasks ≤ 128) (sym (mode_is m l')) (mode_at_limited set keeps m l').tasks;
  }

  -- a task of a mode is one of those that have a body
  pub number_known : (m a : ℕ) → m < length (plans_of set schedules) → a < length (get_or (plans_of set schedules) m no_plan).mode.tasks → (task_at (get_or (plans_of set schedules) m no_plan).mode a).number < length (body_names set)
  number_known m a l h =
      let l' : m < length set.modes = omega (arith, l, plan_count set schedules) in
      let h' = subst (λ (q : PlainMode). a < length q.tasks) (mode_is m l') h in
      subst (λ (q : PlainMode). (task_at q a).number < length (body_names set)) (sym (mode_is m l')) (number_named set [] keeps m a l' h')

-- ---- every world

pub kept_places : (x : WorldSeen) (k : IsWorld x) → length x.places ≡ length (body_names k.set)
kept_places x k =
    k.one_each ∙ ap length k.stands.plans.owners ∙ ap length (owners_of_plans k.set k.schedules) ∙ sym (names_count k.set)

pub world_may : (x : WorldSeen) (k : IsWorld x) (bodies lost : ℕ) → ((number : ℕ) → number < length x.places → body_of x number < bodies) → x.moment ≤ℤ pos 9000000000000000000 → MayAdvance x bodies lost
world_may x k bodies lost each now =
    let y = system_of k.set k.schedules k.answers in
    let w = right_world k.set k.schedules k.answers k.rules k.right in
    let m = some_mode y w k.events k.requests lost in
    may_advance y w (is_small k.set k.schedules k.rules k.right k.answers) k.events k.requests lost x k.stands bodies each
    (λ a l. let known = number_known k.set k.schedules k.rules k.right (spot_next y (history y k.events)).hyper.mode a m l in omega (arith, known, kept_places x k))
    now

pub world_kept : (x : WorldSeen) (k : IsWorld x) (bodies : List BodySeen) (lost : ℕ) → IsWorld (advanced x bodies lost)
world_kept x k bodies lost =
    let value : ℕ → List (Option ℤ) → ℤ = λ number ins. answer_at bodies (body_of x number) number ins in
    let k' = answering x k value in
    let y = system_of k.set k.schedules k'.answers in
    let w = right_world k.set k.schedules k'.answers k.rules k.right in
    let few = is_small k.set k.schedules k.rules k.right k'.answers in
    let here = entered y w k.events k'.requests lost x k'.stands in
    let action = kept_action (plan_at y (spot_next y (history y k.events)).hyper.mode) (entry_at y (spot_next y (history y k.events))).action in
    record {
      set = k.set;
      schedules = k.schedules;
      answers = k'.answers;
      events = advance lost ∷ k.events;
      rules = k.rules;
      right = k.right;
      requests = k'.requests;
      stands = advance_stands y w few k.events k'.requests lost x k'.stands bodies (λ a l ins. sym (answering_gives x k value (task_at (plan_at y (spot_next y (history y k.events)).hyper.mode).mode a).number ins));
      one_each = subst (λ (z : WorldSeen). length z.places ≡ length z.owners) (sym (advanced_is y w few k.events k'.requests lost x k'.stands bodies))
          (ap length (same_places here bodies lost action) ∙ k.one_each ∙ sym (ap length (same_owners here bodies lost action)));
    }

-- ---- with bodies

module _ (set : ModeSet) (schedules : List Schedule) (made : List BodySeen) (keeps : KeepsRules set) (are : AreSchedules set schedules) (have : HaveBodies set made) where
  abbrev y : System
  y = system_with set schedules made

  abbrev plans : List Plan
  plans = plans_of set schedules

  abbrev bodies : Bodies
  bodies = bodies_of set made

  w : RightWorld y
  w = right_world set schedules (by_bodies plans bodies) keeps are

  few : Small y
  few = is_small set schedules keeps are (by_bodies plans bodies)

  module _ (x : WorldSeen) (now : List BodySeen) (es : List PlainEvent) (rf : RequestsFit y es) (st : StandsFor set schedules made x now es) (lost : ℕ) where
    abbrev ds : List Step
    ds = history y es

    abbrev s : Spot
    s = spot_next y ds

    abbrev p : Plan
    p = plan_at y s.hyper.mode

    abbrev here : WorldSeen
    here = entered y w es rf lost x st.world

    abbrev was : List BodySeen
    was = bodies_after plans bodies ds

    named : (a : ℕ) → a < length p.mode.tasks → (task_at p.mode a).number < length (body_names set)
    named a l = number_known set schedules keeps are s.hyper.mode a (some_mode y w es rf lost) l

    place_here : (a : ℕ) → a < length p.mode.tasks → body_of x (task_at p.mode a).number ≡ bodies.place (task_at p.mode a).number
    place_here a l = place_is set made x.places st.places (task_at p.mode a).number (named a l)

    same_answers : (a : ℕ) → a < length p.mode.tasks → (ins : List (Option ℤ)) → let number = (task_at p.mode a).number in answer_at now (body_of x number) number ins ≡ y.answers ds number ins
    same_answers a l ins =
        let number = (task_at p.mode a).number in
        ap (λ (b : ℕ). answer_at now b number ins) (place_here a l)
        ∙ ap (λ (l : List BodySeen). answer_at l (bodies.place number) number ins) st.bodies
        ∙ sym (answers_are set made schedules ds number ins (have number (named a l)))

    abbrev action : Action
    action = kept_action p (entry_at y s).action

    -- the bodies that the entry leaves
    new_bodies : (a : plain.Action) → (entry_at y s).action ≡ a → bodies_performed here now (kept_action p a) ≡ bodies_after plans bodies (step_of y (advance lost) ds ∷ ds)
    new_bodies (plain.task_ends a) act = st.bodies ∙ sym (advance_keeps_bodies y bodies lost ds (ap is_start act))
    new_bodies (plain.beacon j) act = st.bodies ∙ sym (advance_keeps_bodies y bodies lost ds (ap is_start act))
    new_bodies (plain.slot j i) act = st.bodies ∙ sym (advance_keeps_bodies y bodies lost ds (ap is_start act))
    new_bodies (plain.task_starts a) act =
        by_test (starts_now n number) refl
        ∙ ap (λ (t : Bool). cond t (slice_set was b (fired (body_at was b) number ins)) was) (starts_is y w.plans es rf a act (finds y w es rf lost x st.world v) n (entry_node y w es rf lost x st.world v (start_node y w es rf lost x st.world a act)))
        ∙ sym (start_fires y bodies lost ds a act)
      where
        v : ℕ
        v = node_of p a

        number : ℕ
        number = (task_at p.mode a).number

        n : State
        n = at here.nodes (node_of p a)

        b : ℕ
        b = bodies.place (task_at p.mode a).number

        ins : List (Option ℤ)
        ins = inputs p s.stay a (run_at p s.turn (entry_at y s).tick a) ds

        by_test : (t : Bool) → starts_now n number ≡ t → cond t (slice_set now (body_of x number) (fired (body_at now (body_of x number)) number (inputs_at_start n number))) now ≡ cond t (slice_set was b (fired (body_at was b) number ins)) was
        by_test true e =
            ap (λ (i : List (Option ℤ)). slice_set now (body_of x number) (fired (body_at now (body_of x number)) number i)) (ins_are y w es rf lost x st.world a act e)
            ∙ ap (λ (k : ℕ). slice_set now k (fired (body_at now k) number ins)) (place_here a (start_on y w.plans es rf a act).0)
            ∙ ap (λ (l : List BodySeen). slice_set l b (fired (body_at l b) number ins)) st.bodies
        by_test false e = st.bodies

    pub advance_stands_for : StandsFor set schedules made (advanced x now lost) (bodies_advanced x now) (advance lost ∷ es)
    advance_stands_for = record {
      world = advance_stands y w few es rf lost x st.world now same_answers;
      places = subst (λ (z : WorldSeen). z.places ≡ map (place_of_body made) (body_names set)) (sym (advanced_is y w few es rf lost x st.world now)) (same_places here now lost action ∙ st.places);
      bodies = bodies_are y w few es rf lost x st.world now ∙ new_bodies (entry_at y s).action refl;
    }

    pub advance_tells : advance_told x lost ≡ happened y (step_of y (advance lost) ds)
    advance_tells = advance_happened y w few es rf lost x st.world
