-- An Advance of a world that stands for its events
use Rattle.std.proofs.Common.{◌≡◌, ℕ, ◌<◌, ◌≤◌, Bool, true, List, ◌∷◌, ◌++◌, length, map, refl, sym, ◌∙◌, ap, subst, arith, pos, ℤ, ◌+ℤ◌, ◌≤ℤ◌}
use Rattle.std.specs.Prelude.{Option}
use Rattle.std.proofs.lemmas.Int.{ints}
use Rattle.std.proofs.lemmas.List.{length-map}
use Rattle.sched_model.specs.PlainMode.{hyper, task_at}
use Rattle.task_body.specs.Body.{BodySeen}
use Rattle.runtime_model.specs.HostCalls.{PlainHost, AllMay}
use Rattle.runtime_model.specs.Entries as plain
use Rattle.runtime_model.specs.Laws.{RequestsFit}
use Rattle.runtime_model.specs.Outcomes.{PlainEvent, advance, Step, Spot}
use Rattle.runtime_model.specs.Plans.{Plan, RightPlan}
use Rattle.runtime_model.specs.HostOfEvents.{schedule_counts, calls_of}
use Rattle.runtime_model.specs.System.{System, plan_at}
use Rattle.runtime_model.specs.History.{history, step_of, spot_next, last_spot, entry_at, entries, turns, now_after}
use Rattle.runtime_model.proofs.Beacons.{index_now}
use Rattle.runtime_model.proofs.FirstTicks.{moments_rise, now_inside, tick_inside}
use Rattle.world_core.specs.declared.cycle.Action.{Action}
use Rattle.world_core.specs.declared.cycle.Entry.{Entry}
use Rattle.world_core.specs.Cycle.{kept_action, kept_entry}
use Rattle.world_core.specs.Happened.{happened}
use Rattle.world_core.specs.Standing.{Stands}
use Rattle.world_core.specs.Worlds.{WorldSeen, cycle_at}
use Rattle.world_core.specs.WorldSteps.{MayAdvance, MayMove, MayPerform, MayTurn, advance_told, advanced, answer_at, arrived, bodies_advanced, bodies_performed, body_of, is_over, mode_of, next_entry, performed, told}
use Rattle.world_core.proofs.Arriving.{arrives, cycle_length, end_calls, end_may, entered, enters, entry_there, host_is, last_mode, length_there, mode_is, mode_there, over_is, some_mode, there}
use Rattle.world_core.proofs.BeaconWorlds.{may_tell, opens_stands, opens_told_is}
use Rattle.world_core.proofs.CycleLengths.{cycle_short}
use Rattle.world_core.proofs.EndWorlds.{end_stands, end_told_is, may_end}
use Rattle.world_core.proofs.EntryWorlds.{may_pass, nodes_there}
use Rattle.world_core.proofs.SlotWorlds.{may_slot, slot_stands, slot_told_is}
use Rattle.world_core.proofs.StartWorlds.{may_start_there, start_node, start_stands, start_told_is}
use Rattle.world_core.proofs.StartSteps.{start_on}
use Rattle.world_core.proofs.WorldRight.{RightWorld, all}

-- how large a system is
pub record Small (y : System) : Type 0 where
  pub some : 0 < y.nodes
  pub nodes : y.nodes ≤ 64
  pub tasks : (m : ℕ) → m < length y.plans → length (plan_at y m).mode.tasks ≤ 128

module _ (y : System) (w : RightWorld y) (few : Small y) (es : List PlainEvent) (rf : RequestsFit y es) (lost : ℕ) (x : WorldSeen) (st : Stands y x (history y es)) where
  abbrev ds : List Step
  ds = history y es

  abbrev s : Spot
  s = spot_next y ds

  abbrev p : Plan
  p = plan_at y s.hyper.mode

  abbrev d' : Step
  d' = step_of y (advance lost) ds

  abbrev here : WorldSeen
  here = entered y w es rf lost x st

  -- what the world keeps of the entry's action
  abbrev action : Action
  action = kept_action p (entry_at y s).action

  action_is : (next_entry (arrived x)).action ≡ action
  action_is = ap (λ (z : WorldSeen). (next_entry z).action) (arrives y w es rf lost x st) ∙ ap (λ (e : Entry). e.action) (entry_there y w es rf lost x st)

  pub advanced_is : (bodies : List BodySeen) → advanced x bodies lost ≡ performed here bodies lost action
  advanced_is bodies =
      ap (λ (z : WorldSeen). performed z bodies lost (next_entry (arrived x)).action) (enters y w es rf lost x st)
      ∙ ap (performed here bodies lost) action_is

  pub told_is : advance_told x lost ≡ told here lost action
  told_is =
      ap (λ (z : WorldSeen). told z lost (next_entry (arrived x)).action) (enters y w es rf lost x st)
      ∙ ap (told here lost) action_is

  pub bodies_are : (bodies : List BodySeen) → bodies_advanced x bodies ≡ bodies_performed here bodies action
  bodies_are bodies =
      ap (λ (z : WorldSeen). bodies_performed z bodies (next_entry (arrived x)).action) (enters y w es rf lost x st)
      ∙ ap (bodies_performed here bodies) action_is

  -- ---- the world goes on to stand, where the bodies answer what the system's do

  pub advance_stands : (bodies : List BodySeen) → ((a : ℕ) → a < length p.mode.tasks → (ins : List (Option ℤ)) → let number = (task_at p.mode a).number in answer_at bodies (body_of x number) number ins ≡ y.answers ds number ins) →
      Stands y (advanced x bodies lost) (d' ∷ ds)
  advance_stands bodies answers = subst (λ (z : WorldSeen). Stands y z (d' ∷ ds)) (sym (advanced_is bodies)) (by_action (entry_at y s).action refl)
    where
      by_action : (a : plain.Action) → (entry_at y s).action ≡ a → Stands y (performed here bodies lost (kept_action p a)) (d' ∷ ds)
      by_action (plain.task_ends a) act = end_stands y w es rf lost x st a act bodies
      by_action (plain.beacon j) act = opens_stands y w few.some es rf lost x st j act bodies
      by_action (plain.slot j i) act = slot_stands y w es rf lost x st j i act bodies
      by_action (plain.task_starts a) act = start_stands y w es rf lost x st a act bodies (answers a (start_on y w.plans es rf a act).0)

  pub advance_happened : advance_told x lost ≡ happened y d'
  advance_happened = told_is ∙ by_action (entry_at y s).action refl
    where
      by_action : (a : plain.Action) → (entry_at y s).action ≡ a → told here lost (kept_action p a) ≡ happened y d'
      by_action (plain.task_ends a) act = end_told_is y w es rf lost x st a act
      by_action (plain.beacon j) act = opens_told_is y w few.some es rf lost x st j act
      by_action (plain.slot j i) act = slot_told_is y w es rf lost x st j i act
      by_action (plain.task_starts a) act = start_told_is y w es rf lost x st a act

  -- ---- it may advance

  module _ (bodies : ℕ) (start_body : (number : ℕ) → number < length x.places → body_of x number < bodies) (start_known : (a : ℕ) → a < length p.mode.tasks → (task_at p.mode a).number < length x.places)
      (now : x.moment ≤ℤ pos 9000000000000000000) where
    may_act : MayPerform here bodies lost action
    may_act = by_action (entry_at y s).action refl
      where
        by_action : (a : plain.Action) → (entry_at y s).action ≡ a → MayPerform here bodies lost (kept_action p a)
        by_action (plain.task_ends a) act = may_end y w es rf lost x st a act bodies
        by_action (plain.beacon j) act = may_tell y w few.some es rf lost x st j act
        by_action (plain.slot j i) act = may_slot y w es rf lost x st j i act bodies
        by_action (plain.task_starts a) act =
            let known = start_known a (start_on y w.plans es rf a act).0 in
            (omega (arith, start_node y w es rf lost x st a act, nodes_there y w es rf lost x st), known, start_body (task_at p.mode a).number known, may_start_there y w es rf lost x st a act)

    abbrev at_hyper : WorldSeen
    at_hyper = there y w es rf lost x st

    short : (m : ℕ) → m < length y.plans → RightPlan y.nodes (plan_at y m) → (hyper (plan_at y m).mode ≤ 1000000000000) × (length (entries y m) ≤ 24832000000000000)
    short m l ok = (ok.valid.hyper_limit, cycle_short y.nodes (plan_at y m) few.nodes (few.tasks m l) ok.valid.hyper_limit (w.few m l))

    now_least : now_after y ds ≤ 9000000000000000000
    now_least = omega (arith, ints, now, st.time.moment)

    cycle_count : length x.cycles ≡ length y.plans
    cycle_count = ap length st.plans.cycles ∙ length-map y.plans (λ q. map (kept_entry q) (plain.cycle y.nodes q))

    hyper_count : length x.hypers ≡ length y.plans
    hyper_count = ap length st.plans.hypers ∙ length-map y.plans (λ q. pos (hyper q.mode))

    may_turn_it : is_over x ≡ true → MayTurn x
    may_turn_it e =
        let t : turns y ds ≡ true = sym (over_is y w es rf lost x st) ∙ e in
        let may = subst (λ (b : Bool). AllMay (schedule_counts y) (end_calls b ++ calls_of y ds)) t (end_may y w es rf lost) in
        let inside = now_inside y (all y w) es rf in
        record {
          inside = ap (λ (h : PlainHost). h.inside) (host_is y w es rf lost x st) ∙ may.0;
          mode = omega (arith, mode_is y w es rf lost x st, last_mode y w es rf lost, hyper_count);
          begin = subst (λ (b : ℤ). (pos 0 ≤ℤ b) × (b ≤ℤ pos 9000000000000000000)) (sym st.time.begin) (omega (arith, ints), omega (arith, ints, inside.0, now_least));
          hyper = subst (λ (h : ℤ). (pos 0 ≤ℤ h) × (h ≤ℤ pos 1000000000000)) (sym (length_there y w es rf lost x st)) (omega (arith, ints), omega (arith, ints, (short (last_spot ds).hyper.mode (last_mode y w es rf lost) (all y w es rf)).0));
        }

    entry_is : next_entry at_hyper ≡ kept_entry p (entry_at y s)
    entry_is = entry_there y w es rf lost x st

    index : s.index < length (entries y s.hyper.mode)
    index = index_now y (all y w) es rf lost

    there_known : mode_of at_hyper < length x.cycles
    there_known = omega (arith, mode_there y w es rf lost x st, some_mode y w es rf lost, cycle_count)

    there_left : at_hyper.place < length (cycle_at at_hyper (mode_of at_hyper))
    there_left =
        subst (λ (m : ℕ). s.index < length (cycle_at x m)) (sym (mode_there y w es rf lost x st))
        (omega (arith, cycle_length y w es rf lost x st s.hyper.mode (some_mode y w es rf lost), index))

    there_begins : (pos 0 ≤ℤ at_hyper.begin) × (at_hyper.begin ≤ℤ pos 9001000000000000000)
    there_begins =
        let rise = moments_rise y (all y w) es lost rf in
        let last_short = short (last_spot ds).hyper.mode (last_mode y w es rf lost) (all y w es rf) in
        (omega (arith, ints), omega (arith, ints, rise.1, last_short.0, now_least))

    there_tick : (pos 0 ≤ℤ (next_entry at_hyper).tick) × ((next_entry at_hyper).tick ≤ℤ pos 1000000000000)
    there_tick =
        let ok = all y w (advance lost ∷ es) rf in
        let tick = tick_inside y s.hyper.mode ok s.index index in
        let limit = (short s.hyper.mode (some_mode y w es rf lost) ok).0 in
        subst (λ (e : Entry). (pos 0 ≤ℤ e.tick) × (e.tick ≤ℤ pos 1000000000000)) (sym entry_is) (omega (arith, ints), omega (arith, ints, tick, limit))

    there_moves : MayMove at_hyper (at_hyper.begin +ℤ (next_entry at_hyper).tick)
    there_moves =
        let rise = moments_rise y (all y w) es lost rf in
        subst (λ (e : Entry). MayMove at_hyper (pos s.begin +ℤ e.tick)) (sym entry_is) (record {
          past = subst (λ (m : ℤ). pos 0 ≤ℤ m) (sym st.time.moment) (omega (arith, ints));
          later = subst (λ (m : ℤ). m ≤ℤ (pos s.begin +ℤ pos (entry_at y s).tick)) (sym st.time.moment) (omega (arith, ints, rise.0));
          place = omega (arith, index, (short s.hyper.mode (some_mode y w es rf lost) (all y w (advance lost ∷ es) rf)).1);
          pass = may_pass y w es rf lost x st;
        })

    pub may_advance : MayAdvance x bodies lost
    may_advance =
        let is = sym (arrives y w es rf lost x st) in
        record {
          few = omega (arith, st.plans.nodes, few.nodes);
          mode = omega (arith, mode_is y w es rf lost x st, last_mode y w es rf lost, cycle_count);
          may_turn = may_turn_it;
          known = subst (λ (z : WorldSeen). mode_of z < length x.cycles) is there_known;
          left = subst (λ (z : WorldSeen). z.place < length (cycle_at z (mode_of z))) is there_left;
          begin = subst (λ (z : WorldSeen). (pos 0 ≤ℤ z.begin) × (z.begin ≤ℤ pos 9001000000000000000)) is there_begins;
          tick = subst (λ (z : WorldSeen). (pos 0 ≤ℤ (next_entry z).tick) × ((next_entry z).tick ≤ℤ pos 1000000000000)) is there_tick;
          may_move = subst (λ (z : WorldSeen). MayMove z (z.begin +ℤ (next_entry z).tick)) is there_moves;
          may_perform = subst (λ (z : WorldSeen). MayPerform z bodies lost (next_entry (arrived x)).action) (sym (enters y w es rf lost x st)) (subst (MayPerform here bodies lost) (sym action_is) may_act);
        }
