-- A world before its first event stands for no events
use Rattle.std.proofs.Common.{◌≡◌, ℕ, ◌+◌, ◌<◌, List, [], ◌∷◌, ℤ, pos, length, get_or, map, refl, sym, ◌∙◌, ap, subst, arith, length-append}
use Rattle.std.specs.Prelude.{Option}
use Rattle.std.specs.List.{flat_map}
use Rattle.std.proofs.lemmas.List.{length-map}
use Rattle.std.proofs.lemmas.List.Folds.{flat_map-map}
use Rattle.app_graph.specs.declared.mode_set.App.{App}
use Rattle.app_graph.specs.declared.mode_set.Mode.{Mode}
use Rattle.app_graph.specs.declared.mode_set.ModeSet.{ModeSet}
use Rattle.app_graph.specs.declared.mode_set.Task.{Task}
use Rattle.app_graph.specs.Validation.{KeepsRules}
use Rattle.sched_model.specs.declared.schedule.Schedule.{Schedule}
use Rattle.sched_model.specs.Numbers.{below}
use Rattle.sched_model.specs.PlainMode.{PlainTask, hyper, plain_at}
use Rattle.sched_model.proofs.Lists.{get_or-map_below, length-below}
use Rattle.task_body.specs.Body.{BodySeen, body_at, no_body}
use Rattle.runtime_model.specs.Bodies.{by_bodies}
use Rattle.runtime_model.specs.Outcomes.{Step}
use Rattle.runtime_model.specs.Plans.{AreSchedules, Plan, first_rounds, no_schedule, plan_of, plans_of, round_counts}
use Rattle.runtime_model.specs.NodeTables.{part_of}
use Rattle.runtime_model.specs.System.{System, system_of}
use Rattle.mode_change.specs.HostStands as made
use Rattle.node_core.proofs.PartLimits.{parts_fit}
use Rattle.node_tables.specs.Parts.{typed_table}
use Rattle.world_core.specs.declared.state.State.{State}
use Rattle.world_core.specs.Cycle.{kept_cycle}
use Rattle.world_core.specs.KeptWorlds.{IsWorld}
use Rattle.world_core.specs.Making.{listener}
use Rattle.world_core.specs.NodeStates.{StateFits, no_state}
use Rattle.world_core.specs.Owners.{AreOwners, nodes_in, owners_in}
use Rattle.world_core.specs.Standing.{KeepsPlans, NodeStands, Stands}
use Rattle.world_core.specs.StandsFor.{StandsFor, bodies_of, body_names, place_of_body}
use Rattle.world_core.specs.TaskBodies.{bodies_of_mode}
use Rattle.world_core.specs.Worlds.{WorldSeen, node_at}
use Rattle.world_core.proofs.Beaconed.{listens_stand}
use Rattle.world_core.proofs.EntryLists.{map_map, map_places}
use Rattle.world_core.proofs.OwnerLemmas.{owners_same}

-- a world as it is made
pub record IsFirst (set : ModeSet) (schedules : List Schedule) (bodies : List BodySeen) (w : WorldSeen) : Type 0 where
  pub nodes : w.nodes ≡ map (listener (plans_of set schedules)) (below (length set.nodes))
  pub host : made.HostStands schedules w.host []
  pub host_node : w.host_node ≡ set.host
  pub cycles : w.cycles ≡ map (kept_cycle (length set.nodes)) (plans_of set schedules)
  pub hypers : w.hypers ≡ map (λ i. pos (hyper (plain_at set i))) (below (length set.modes))
  pub owners : AreOwners set w.owners
  pub places : w.places ≡ map (place_of_body bodies) (body_names set)
  pub place : w.place ≡ 0
  pub begin : w.begin ≡ pos 0
  pub moment : w.moment ≡ pos 0

-- the schedules of the plans
schedules_same : (set : ModeSet) (schedules : List Schedule) → AreSchedules set schedules → map (λ (p : Plan). p.schedule) (plans_of set schedules) ≡ schedules
schedules_same set schedules are =
    map_map (λ (p : Plan). p.schedule) (plan_of set schedules) (below (length set.modes))
    ∙ ap (λ n. map (λ i. get_or schedules i no_schedule) (below n)) (sym are.one_each)
    ∙ sym (map_places (λ (s : Schedule). s) schedules no_schedule)
    ∙ map_same schedules
  where
    map_same : (xs : List Schedule) → map (λ (s : Schedule). s) xs ≡ xs
    map_same [] = refl
    map_same (x ∷ xs) = ap (λ (l : List Schedule). x ∷ l) (map_same xs)

module _ (set : ModeSet) (schedules : List Schedule) (bodies : List BodySeen) (w : WorldSeen) (keeps : KeepsRules set) (are : AreSchedules set schedules) (f : IsFirst set schedules bodies w)
    (answers : List Step → ℕ → List (Option ℤ) → ℤ) where
  abbrev y : System
  y = system_of set schedules answers

  counts : round_counts schedules ≡ round_counts (map (λ (p : Plan). p.schedule) y.plans)
  counts = ap round_counts (sym (schedules_same set schedules are))

  first_plans : KeepsPlans y w
  first_plans = record {
    nodes = ap length f.nodes ∙ length-map (below (length set.nodes)) (listener (plans_of set schedules)) ∙ length-below (length set.nodes);
    host_node = f.host_node;
    cycles = f.cycles;
    hypers = f.hypers ∙ sym (map_map (λ (p : Plan). pos (hyper p.mode)) (plan_of set schedules) (below (length set.modes)));
    owners = f.owners.list ∙ sym (flat_map-map (λ (p : Plan). map (λ (t : PlainTask). t.node) p.mode.tasks) (plan_of set schedules) (below (length set.modes)));
    rounds = f.host.rounds ∙ counts;
    firsts = f.host.firsts ∙ ap (first_rounds 1) counts;
  }

  node_is : (v : ℕ) → v < length set.nodes → node_at w v ≡ listener (plans_of set schedules) v
  node_is v l = ap (λ (ns : List State). get_or ns v no_state) f.nodes ∙ get_or-map_below (listener (plans_of set schedules)) (length set.nodes) v no_state l

  pub first_stands : Stands y w []
  first_stands = record {
    plans = first_plans;
    time = record { place = f.place; begin = f.begin; moment = f.moment };
    host = f.host.host;
    each = λ v l. subst (λ (n : State). NodeStands y v [] n) (sym (node_is v l)) (listens_stand y v [] (typed_table (part_of (plans_of set schedules) v)) refl refl);
    fits = λ v l. subst StateFits (sym (node_is v l)) (parts_fit set schedules v keeps are l);
  }

-- as many places as tasks
names_count : (apps : List App) → length (flat_map (λ (a : App). map (λ (t : Task). t.body) a.tasks) apps) ≡ length (flat_map (λ (a : App). map (λ (t : Task). t.node) a.tasks) apps)
names_count [] = refl
names_count (a ∷ apps) =
    let names = map (λ (t : Task). t.body) a.tasks in
    let nodes = map (λ (t : Task). t.node) a.tasks in
    length-append names (flat_map (λ (a : App). map (λ (t : Task). t.body) a.tasks) apps)
    ∙ (let e : length names + length (flat_map (λ (a : App). map (λ (t : Task). t.body) a.tasks) apps) ≡ length nodes + length (flat_map (λ (a : App). map (λ (t : Task). t.node) a.tasks) apps) =
    omega (arith, length-map a.tasks (λ (t : Task). t.body), length-map a.tasks (λ (t : Task). t.node), names_count apps) in e)
    ∙ sym (length-append nodes (flat_map (λ (a : App). map (λ (t : Task). t.node) a.tasks) apps))

all_count : (modes : List Mode) → length (flat_map bodies_of_mode modes) ≡ length (owners_in modes)
all_count [] = refl
all_count (m ∷ modes) =
    let nodes = flat_map nodes_in m.apps in
    length-append (bodies_of_mode m) (flat_map bodies_of_mode modes)
    ∙ (let e : length (bodies_of_mode m) + length (flat_map bodies_of_mode modes) ≡ length nodes + length (owners_in modes) = omega (arith, names_count m.apps, all_count modes) in e)
    ∙ sym (length-append nodes (owners_in modes))

pub first_is_world : (set : ModeSet) (schedules : List Schedule) (bodies : List BodySeen) (w : WorldSeen) → KeepsRules set → AreSchedules set schedules → IsFirst set schedules bodies w → IsWorld w
first_is_world set schedules bodies w keeps are f =
    let answers = λ (ds : List Step) (number : ℕ) (ins : List (Option ℤ)). pos 0 in
    record {
      set = set;
      schedules = schedules;
      answers = answers;
      events = [];
      rules = keeps;
      right = are;
      requests = tt;
      stands = first_stands set schedules bodies w keeps are f answers;
      one_each =
          ap length f.places ∙ length-map (body_names set) (place_of_body bodies) ∙ all_count set.modes
          ∙ ap length (owners_same set ∙ sym f.owners.list);
    }

-- the bodies are as they were made
pub bodies_first : (bodies : List BodySeen) → bodies ≡ map (λ b. body_at bodies b) (below (length bodies))
bodies_first bodies = sym (map_same bodies) ∙ map_places (λ (b : BodySeen). b) bodies no_body
  where
    map_same : (xs : List BodySeen) → map (λ (b : BodySeen). b) xs ≡ xs
    map_same [] = refl
    map_same (x ∷ xs) = ap (λ (l : List BodySeen). x ∷ l) (map_same xs)

pub first_stands_for : (set : ModeSet) (schedules : List Schedule) (bodies : List BodySeen) (w : WorldSeen) → KeepsRules set → AreSchedules set schedules → IsFirst set schedules bodies w → StandsFor set schedules bodies w bodies []
first_stands_for set schedules bodies w keeps are f = record {
  world = first_stands set schedules bodies w keeps are f (by_bodies (plans_of set schedules) (bodies_of set bodies));
  places = f.places;
  bodies = bodies_first bodies;
}
