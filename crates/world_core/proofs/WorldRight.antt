-- What the proofs of a world take of its system: right plans, few rounds in each, what each node finds in its part of them,
-- and that no task consumes a message twice
use Rattle.std.proofs.Common.{ℕ, ◌<◌, ◌≤◌, List, ℤ, length, get_or, sym, subst, arith, ⊎_elim}
use Rattle.std.specs.Prelude.{Option}
use Rattle.std.proofs.lemmas.Bool.{cases_lt}
use Rattle.std.proofs.lemmas.List.{get_or_past}
use Rattle.app_graph.specs.declared.mode_set.ModeSet.{ModeSet}
use Rattle.app_graph.specs.Validation.{KeepsRules}
use Rattle.sched_model.specs.declared.schedule.Schedule.{Schedule}
use Rattle.sched_model.specs.PlainMode.{message_at}
use Rattle.sched_model.proofs.Lists.{get_or-map_below}
use Rattle.runtime_model.specs.Laws.{PlansAreRight, RequestsFit}
use Rattle.runtime_model.specs.NodeTables.{part_of}
use Rattle.runtime_model.specs.Outcomes.{PlainEvent, Step}
use Rattle.runtime_model.specs.Plans.{AreSchedules, Plan, RightPlan, no_schedule, plan_of}
use Rattle.runtime_model.specs.System.{System, no_plan, plan_at, system_of}
use Rattle.runtime_model.specs.History.{history, last_spot}
use Rattle.runtime_model.proofs.Modes.{AllRight, all_right}
use Rattle.runtime_model.proofs.RightSets.{kept_sets_have_right_plans, plan_count}
use Rattle.node_tables.specs.Parts.{typed_table}
use Rattle.node_core.specs.PartLookups.{PartLooksUp}
use Rattle.node_core.proofs.PartFinds.{parts_look_up}
use Rattle.world_core.specs.Cycle.{FewRounds}
use Rattle.world_core.proofs.Consumers.{Once, each_once}
use Rattle.world_core.proofs.CycleLemmas.{few_rounds}

pub record RightWorld (y : System) : Type 0 where
  pub plans : PlansAreRight y
  pub finds : (v m : ℕ) → m < length y.plans → PartLooksUp y.plans v m (plan_at y m) (typed_table (part_of y.plans v))
  pub few : (m : ℕ) → m < length y.plans → FewRounds (plan_at y m).schedule
  pub consumers : (m i : ℕ) → m < length y.plans → i < length (plan_at y m).mode.messages → Once (message_at (plan_at y m).mode i).to

-- the system of a set that keeps the rules with right schedules is such a one, whatever the bodies answer
pub right_world : (set : ModeSet) (schedules : List Schedule) (answers : List Step → ℕ → List (Option ℤ) → ℤ) → KeepsRules set → AreSchedules set schedules → RightWorld (system_of set schedules answers)
right_world set schedules answers keeps are =
    let n = plan_count set schedules in
    record {
      plans = (kept_sets_have_right_plans set schedules keeps are).system answers;
      finds = λ v m l. parts_look_up set schedules v m keeps are (omega (arith, l, n));
      few = λ m l.
          let l' : m < length set.modes = omega (arith, l, n) in
          subst (λ (p : Plan). FewRounds p.schedule) (sym (get_or-map_below (plan_of set schedules) (length set.modes) m no_plan l')) (few_rounds set m keeps l' (get_or schedules m no_schedule) (are.right m l'));
      consumers = λ m i l.
          let l' : m < length set.modes = omega (arith, l, n) in
          subst (λ (p : Plan). i < length p.mode.messages → Once (message_at p.mode i).to) (sym (get_or-map_below (plan_of set schedules) (length set.modes) m no_plan l')) (each_once set keeps m l' i);
    }

-- each mode with a right plan is one of the system's
pub is_mode : (y : System) (m : ℕ) → RightPlan y.nodes (plan_at y m) → m < length y.plans
is_mode y m ok =
    ⊎_elim
    (λ (l : m < length y.plans). l)
    (λ (past : length y.plans ≤ m).
    let e = get_or_past y.plans m no_plan past in
    let none = subst (λ (p : Plan). RightPlan y.nodes p) e ok in
    absurd (omega (arith, none.right.shape.some, none.right.shape.starts)))
    (cases_lt m (length y.plans))

module _ (y : System) (w : RightWorld y) where
  pub all : AllRight y
  all = all_right y w.plans

  -- the mode of the last event
  pub mode_now : (es : List PlainEvent) → RequestsFit y es → (last_spot (history y es)).hyper.mode < length y.plans
  mode_now es f = is_mode y (last_spot (history y es)).hyper.mode (all es f)
