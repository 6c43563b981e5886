-- A set that keeps the rules has right plans with each right schedule
use Rattle.std.proofs.Common.{◌≡◌, ℕ, ◌<◌, ◌≤◌, List, length, get_or, All, sym, ◌∙◌, subst, arith}
use Rattle.std.proofs.lemmas.List.{get_or-map, length-map}
use Rattle.std.proofs.lemmas.List.Elements.{All-from_get_or, Contains-get_or}
use Rattle.app_graph.specs.declared.mode_set.ModeSet.{ModeSet}
use Rattle.app_graph.specs.Validation.{KeepsRules}
use Rattle.sched_model.specs.declared.schedule.Schedule.{Schedule}
use Rattle.sched_model.specs.Numbers.{below}
use Rattle.sched_model.specs.PlainMode.{message_at, plain_at}
use Rattle.sched_model.specs.RightSchedule.{IsSchedule}
use Rattle.sched_model.proofs.KeptSets.{mode_at_valid}
use Rattle.sched_model.proofs.LimitedModes.{mode_at_limited}
use Rattle.sched_model.proofs.Lists.{get_or-map_below, length-below}
use Rattle.sched_model.proofs.TaskNumbers.{few_modes}
use Rattle.runtime_model.specs.Plans.{AreSchedules, Plan, RightPlan, no_schedule, plan_of, plans_of, round_counts}
use Rattle.runtime_model.specs.System.{no_plan}
use Rattle.runtime_model.specs.Laws.{KeptSetsHaveRightPlans}
use Rattle.runtime_model.proofs.SetRules.{host_known, on_nodes, some_mode}
use Rattle.runtime_model.proofs.Times.{rounds_fit}

-- a mode of the set with a right schedule is a right plan
pub right_plan : (set : ModeSet) (i : ℕ) → KeepsRules set → i < length set.modes → (s : Schedule) → IsSchedule (plain_at set i) (length s.starts) s →
    RightPlan (length set.nodes) (record { mode = plain_at set i; schedule = s })
right_plan set i keeps l s right =
    let on = on_nodes set keeps i l in
    record {
      valid = mode_at_valid set keeps i l;
      rounds = length s.starts;
      right = right;
      node = on.known;
      senders = λ j a h c. on.senders j a (get_or (message_at (plain_at set i) j).from 0 0) h c (Contains-get_or (message_at (plain_at set i) j).from 0 0 (omega (arith, c.1)));
    }

pub rounds_few : (set : ModeSet) (i : ℕ) → KeepsRules set → i < length set.modes → (s : Schedule) → IsSchedule (plain_at set i) (length s.starts) s → length s.starts ≤ 256
rounds_few set i keeps l s right =
    omega (arith, rounds_fit (length set.nodes) (record { mode = plain_at set i; schedule = s }) (right_plan set i keeps l s right), (mode_at_limited set keeps i l).rounds)

-- the number of rounds of a schedule
abbrev count_of : Schedule → ℕ
count_of s = length s.starts

counts_fit : (set : ModeSet) (schedules : List Schedule) → KeepsRules set → AreSchedules set schedules → All (λ c. c ≤ 256) (round_counts schedules)
counts_fit set schedules keeps are = All-from_get_or (λ c. c ≤ 256) (round_counts schedules) 0 (λ i l.
    let in_schedules : i < length schedules = omega (arith, l, length-map schedules count_of) in
    let in_set : i < length set.modes = omega (arith, in_schedules, are.one_each) in
    let is = get_or-map count_of schedules i no_schedule 0 in_schedules in
    subst (λ (c : ℕ). c ≤ 256) (sym is) (rounds_few set i keeps in_set (get_or schedules i no_schedule) (are.right i in_set)))

-- the plan of a mode of the set
plan_is : (set : ModeSet) (schedules : List Schedule) (i : ℕ) (d : Plan) → i < length set.modes → get_or (plans_of set schedules) i d ≡ plan_of set schedules i
plan_is set schedules i d l = get_or-map_below (plan_of set schedules) (length set.modes) i d l

pub plan_count : (set : ModeSet) (schedules : List Schedule) → length (plans_of set schedules) ≡ length set.modes
plan_count set schedules = length-map (below (length set.modes)) (plan_of set schedules) ∙ length-below (length set.modes)

pub kept_sets_have_right_plans : KeptSetsHaveRightPlans
kept_sets_have_right_plans set schedules keeps are =
    let n = plan_count set schedules in
    let some = some_mode set keeps in
    let few = few_modes set keeps in
    let each = λ (i : ℕ) (l : i < length set.modes). right_plan set i keeps l (get_or schedules i no_schedule) (are.right i l) in
    record {
      plans = record { some = some; most = few; rounds = λ i l. (mode_at_limited set keeps i l).rounds; one_each = are.one_each; right = each };
      host = host_known set keeps;
      few = record { some = omega (arith, some, are.one_each); modes = omega (arith, few, are.one_each); rounds = counts_fit set schedules keeps are };
      system = λ answers. (
        omega (arith, n, some),
        λ i l.
            let l' : i < length set.modes = omega (arith, n, l) in
            subst (λ (p : Plan). RightPlan (length set.nodes) p) (sym (plan_is set schedules i no_plan l')) (each i l'),
      );
    }
