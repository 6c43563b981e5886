-- Worlds of the tests, and the schedules of an accepted plan
use Rattle.std.proofs.Common.{◌≡◌, ℕ, zero, suc, ◌<◌, List, [], ◌∷◌, ◌++◌, length, map, get_or, All, Option, Some, None, sym, ◌∙◌, ap, subst, arith, append_assoc, append-nil}
use Rattle.std.specs.List.{AllZip}
use Rattle.std.proofs.lemmas.List.{get_or_default, length-map, map-append}
use Rattle.std.proofs.lemmas.List.Elements.{All-map}
use Rattle.std.proofs.lemmas.Slice.Zip.{AllZip-long}
use Rattle.app_graph.specs.declared.mode_set.Mode.{Mode}
use Rattle.app_graph.specs.declared.mode_set.ModeSet.{ModeSet}
use Rattle.sched_model.specs.declared.schedule.Schedule.{Schedule}
use Rattle.sched_model.specs.PlainMode.{plain_mode}
use Rattle.sched_model.specs.RightSchedule.{IsSchedule}
use Rattle.proof_tree.specs.Accepting.{IsRight, doc_mode, doc_modes}
use Rattle.task_body.specs.Body.{BodySeen}
use Rattle.runtime_model.specs.Plans.{AreSchedules, no_schedule}
use Rattle.runtime_model.proofs.RightSets.{plan_count}
use Rattle.world_core.specs.declared.happened.Event.{Event}
use Rattle.world_core.specs.declared.happened.Event.TheVariants.{Advance, Request, Restart}
use Rattle.world_core.specs.KeptWorlds.{MayHappen}
use Rattle.world_core.specs.StandsFor.{HaveBodies, StandsFor, body_names, place_of_body, system_with}
use Rattle.world_core.specs.TestWorlds.{IsOfSet, MayHappenIn}
use Rattle.world_core.specs.WorldKeeps.{StaysSame}
use Rattle.world_core.specs.Worlds.{WorldSeen}
use Rattle.world_core.proofs.OtherSteps.{cycle_count}

-- ---- worlds

pub made_of_set : {X : Type 0} (see : X → BodySeen) (boxes : List X) (set : ModeSet) (schedules : List Schedule) (w : WorldSeen) →
    StandsFor set schedules (map see boxes) w (map see boxes) [] → HaveBodies set (map see boxes) → IsOfSet set (length boxes) w
made_of_set see boxes set schedules w stands have =
    let made = map see boxes in
    let y = system_with set schedules made in
    record {
      nodes = stands.world.plans.nodes;
      host_node = stands.world.plans.host_node;
      cycles = cycle_count y w stands.world.plans ∙ plan_count set schedules;
      places = subst (λ (ps : List ℕ). All (λ b. b < length boxes) ps) (sym stands.places)
          (All-map (λ b. b < length boxes) (place_of_body made) (body_names set)
          (λ i d l. subst (λ n. place_of_body made (get_or (body_names set) i d) < n) (length-map boxes see)
          (subst (λ (name : List ℕ). place_of_body made name < length made) (get_or_default (body_names set) i [] d l) (have i l))));
    }

pub stays_of_set : (set : ModeSet) (n m : ℕ) (w z : WorldSeen) → IsOfSet set n w → StaysSame w z → m ≡ n → IsOfSet set m z
stays_of_set set n m w z k same count = record {
  nodes = same.nodes ∙ k.nodes;
  host_node = same.host_node ∙ k.host_node;
  cycles = ap length same.cycles ∙ k.cycles;
  places = subst (λ c. All (λ b. b < c) z.places) (sym count) (subst (λ (ps : List ℕ). All (λ b. b < n) ps) (sym same.places) k.places);
}

pub may_in : (set : ModeSet) (n : ℕ) (w : WorldSeen) (e : Event) → IsOfSet set n w → MayHappenIn set e → MayHappen w e
may_in set n w (Advance lost) k may = tt
may_in set n w (Request mode) k may = subst (λ c. mode < c) (sym k.cycles) may
may_in set n w (Restart node) k may = (subst (λ c. node < c) (sym k.nodes) may.0, λ e. may.1 (e ∙ k.host_node))

-- ---- schedules

-- one schedule more
pub next_schedule : (plans rest left : List (Option Schedule)) (old new : List Schedule) (s : Schedule) → map Some old ++ left ≡ plans → left ≡ Some s ∷ rest → new ≡ old ++ s ∷ [] → map Some new ++ rest ≡ plans
next_schedule plans rest left old new s whole first add =
    ap (λ (xs : List Schedule). map Some xs ++ rest) add
    ∙ ap (λ (ys : List (Option Schedule)). ys ++ rest) (map-append Some old (s ∷ []))
    ∙ append_assoc (map Some old) (Some s ∷ []) rest
    ∙ ap (λ (ys : List (Option Schedule)). map Some old ++ ys) (sym first)
    ∙ whole

-- all of them
pub all_schedules : (plans left : List (Option Schedule)) (old : List Schedule) → map Some old ++ left ≡ plans → length left ≡ 0 → plans ≡ map Some old
all_schedules plans [] old whole none = sym whole ∙ append-nil (map Some old)
all_schedules plans (p ∷ left) old whole none = absurd (omega (arith, none))

right_at : (set : ModeSet) (modes : List Mode) (schedules : List Schedule) → AllZip IsRight (map (doc_mode set) modes) (map Some schedules) → (i : ℕ) → i < length modes → (d : Mode) →
    let s = get_or schedules i no_schedule in IsSchedule (plain_mode set (get_or modes i d)) (length s.starts) s
right_at set [] schedules h i l d = absurd (omega (arith, l))
right_at set (m ∷ modes) [] h i l d = absurd h
right_at set (m ∷ modes) (s ∷ schedules) h zero l d = h.0
right_at set (m ∷ modes) (s ∷ schedules) h (suc i) l d = right_at set modes schedules h.1 i (omega (arith, l)) d

-- the schedules of an accepted plan are right, one for each mode
pub schedules_right : (set : ModeSet) (plans : List (Option Schedule)) (schedules : List Schedule) → AllZip IsRight (doc_modes set) plans → plans ≡ map Some schedules → AreSchedules set schedules
schedules_right set plans schedules right is =
    let h = subst (λ (ps : List (Option Schedule)). AllZip IsRight (doc_modes set) ps) is right in
    record {
      one_each = omega (arith, AllZip-long IsRight (doc_modes set) (map Some schedules) h, length-map schedules (λ (s : Schedule). Some s), length-map set.modes (doc_mode set));
      right = λ i l. right_at set set.modes schedules h i l (record { name = []; apps = [] });
    }
