-- The mode sets and schedules of the tests keep the rules and have their modes' shapes
use Rattle.std.proofs.Common.{◌≡◌, ℕ, zero, suc, ◌<◌, codes, List, [], ◌∷◌, length, get_or, All, Contains, refl, sym, ◌∙◌, ap, subst, arith, ℤ, pos}
use Rattle.std.specs.Prelude.{Bool, Result, Ok, Err, IsTrue, OnOk}
use Rattle.std.specs.Result.{is_ok}
use Rattle.std.proofs.lemmas.Int.{ints}
use Rattle.std.proofs.lemmas.List.{get_or_default}
use Rattle.std.proofs.lemmas.List.Elements.{All-from_recursion}
use Rattle.app_graph.specs.declared.raw.RawMode.{RawMode}
use Rattle.app_graph.specs.declared.raw.RawSet.{RawSet}
use Rattle.app_graph.specs.declared.mode_set.Mode.{Mode}
use Rattle.app_graph.specs.declared.mode_set.ModeSet.{ModeSet}
use Rattle.app_graph.specs.Hyperperiod.{hyperperiod}
use Rattle.app_graph.specs.ValueRules.{slots_of}
use Rattle.app_graph.specs.Validation.{KeepsRules}
use Rattle.sched_model.specs.declared.schedule.Schedule.{Schedule}
use Rattle.sched_model.specs.PlainMode.{plain_at}
use Rattle.sched_model.specs.RightSchedule.{HasShape, IsSchedule}
use Rattle.sched_model.specs.TimeLimits.{HasTimes, IsTime}
use Rattle.runtime_model.specs.Plans.{no_schedule, AreSchedules}
use Rattle.node_tables.specs.TestPlans.{loop_mode, double_mode, idle_mode, set_with, loop_schedule, double_schedule, idle_schedule}

abbrev raw_loop_with : ℕ → RawMode
raw_loop_with copies = record {
  name = codes "run";
  apps = record {
    name = codes "loop";
    period = pos 100;
    deadline = pos 100;
    tasks = record { name = codes "sense"; node = codes "n1"; wcet = pos 2; body = codes "tally" }
        ∷ record { name = codes "ctrl"; node = codes "n0"; wcet = pos 5; body = codes "tally" }
        ∷ record { name = codes "act"; node = codes "n2"; wcet = pos 1; body = codes "tally" } ∷ [];
    messages = record { name = codes "m1"; from = codes "sense" ∷ []; to = codes "ctrl" ∷ []; copies = pos copies } ∷ record { name = codes "m2"; from = codes "ctrl" ∷ []; to = codes "act" ∷ []; copies = pos 1 } ∷ [];
  } ∷ [];
}

abbrev raw_loop : RawMode
raw_loop = raw_loop_with 1

abbrev raw_idle : RawMode
raw_idle = record {
  name = codes "idle";
  apps = record {
    name = codes "blink";
    period = pos 100;
    deadline = pos 100;
    tasks = record { name = codes "led"; node = codes "n2"; wcet = pos 1; body = codes "tally" } ∷ [];
    messages = [];
  } ∷ [];
}

abbrev raw_with : List RawMode → RawSet
raw_with modes = record { slots = pos 2; round = pos 20; gap = pos 100; host = codes "n0"; nodes = codes "n0" ∷ codes "n1" ∷ codes "n2" ∷ []; modes = modes }

pub loop_kept : KeepsRules (set_with (loop_mode ∷ []))
unfolding hyperperiod slots_of
loop_kept = (raw_with (raw_loop ∷ []), refl, refl)

pub double_kept : KeepsRules (set_with (double_mode ∷ []))
unfolding hyperperiod slots_of
double_kept = (raw_with (raw_loop_with 2 ∷ []), refl, refl)

pub both_kept : KeepsRules (set_with (loop_mode ∷ idle_mode ∷ []))
unfolding hyperperiod slots_of
both_kept = (raw_with (raw_loop ∷ raw_idle ∷ []), refl, refl)

abbrev NumberIn : List ℕ → ℕ → Type 0
NumberIn xs n = Contains xs n

zero_in : NumberIn (0 ∷ 1 ∷ []) 0
zero_in = (0, omega arith, refl)

one_in : NumberIn (0 ∷ 1 ∷ []) 1
one_in = (1, omega arith, refl)

pub loop_shape : (rest : List Mode) → HasShape (plain_at (set_with (loop_mode ∷ rest)) 0) 2 loop_schedule
loop_shape rest = record {
  some = omega arith;
  starts = refl;
  tables = refl;
  tasks = refl;
  messages = refl;
  numbers = All-from_recursion (λ table. All (NumberIn (0 ∷ 1 ∷ [])) table) ((1 ∷ []) ∷ (0 ∷ []) ∷ [])
      (All-from_recursion (NumberIn (0 ∷ 1 ∷ [])) (1 ∷ []) (one_in, tt), (All-from_recursion (NumberIn (0 ∷ 1 ∷ [])) (0 ∷ []) (zero_in, tt), tt));
}

pub double_shape : HasShape (plain_at (set_with (double_mode ∷ [])) 0) 3 double_schedule
double_shape = record {
  some = omega arith;
  starts = refl;
  tables = refl;
  tasks = refl;
  messages = refl;
  numbers = All-from_recursion (λ table. All (NumberIn (0 ∷ 1 ∷ [])) table) ((1 ∷ []) ∷ (0 ∷ []) ∷ (0 ∷ []) ∷ []) (
    All-from_recursion (NumberIn (0 ∷ 1 ∷ [])) (1 ∷ []) (one_in, tt),
    (All-from_recursion (NumberIn (0 ∷ 1 ∷ [])) (0 ∷ []) (zero_in, tt), (All-from_recursion (NumberIn (0 ∷ 1 ∷ [])) (0 ∷ []) (zero_in, tt), tt)),
  );
}

pub idle_shape : HasShape (plain_at (set_with (loop_mode ∷ idle_mode ∷ [])) 1) 1 idle_schedule
idle_shape = record {
  some = omega arith;
  starts = refl;
  tables = refl;
  tasks = refl;
  messages = refl;
  numbers = All-from_recursion (λ table. All (NumberIn []) table) ([] ∷ []) (All-from_recursion (NumberIn []) [] tt, tt);
}

is_time : (n : ℕ) → n < 1000 → IsTime (pos n)
is_time n l = (omega (arith, ints), omega (arith, ints, l))

abbrev IsWindow : ℤ × ℤ → Type 0
IsWindow w = IsTime w.0 × IsTime w.1

pub loop_times : HasTimes loop_schedule
loop_times = record {
  starts = All-from_recursion IsTime (pos 0 ∷ pos 23 ∷ []) (is_time 0 (omega arith), (is_time 23 (omega arith), tt));
  tasks = All-from_recursion IsTime (pos 21 ∷ pos 43 ∷ pos 120 ∷ []) (is_time 21 (omega arith), (is_time 43 (omega arith), (is_time 120 (omega arith), tt)));
  messages = All-from_recursion IsWindow ((pos 23, pos 43) ∷ (pos 48, pos 120) ∷ []) ((is_time 23 (omega arith), is_time 43 (omega arith)), ((is_time 48 (omega arith), is_time 120 (omega arith)), tt));
}

pub double_times : HasTimes double_schedule
double_times = record {
  starts = All-from_recursion IsTime (pos 0 ∷ pos 23 ∷ pos 43 ∷ []) (is_time 0 (omega arith), (is_time 23 (omega arith), (is_time 43 (omega arith), tt)));
  tasks = All-from_recursion IsTime (pos 21 ∷ pos 63 ∷ pos 120 ∷ []) (is_time 21 (omega arith), (is_time 63 (omega arith), (is_time 120 (omega arith), tt)));
  messages = All-from_recursion IsWindow ((pos 23, pos 63) ∷ (pos 68, pos 120) ∷ []) ((is_time 23 (omega arith), is_time 63 (omega arith)), ((is_time 68 (omega arith), is_time 120 (omega arith)), tt));
}

pub idle_times : HasTimes idle_schedule
idle_times = record {
  starts = All-from_recursion IsTime (pos 0 ∷ []) (is_time 0 (omega arith), tt);
  tasks = All-from_recursion IsTime (pos 0 ∷ []) (is_time 0 (omega arith), tt);
  messages = All-from_recursion IsWindow [] tt;
}

-- ---- what `verify` is asked and says, of a set and plans that are these

pub passed : (r : Result (Unit {0}) ℕ) (b : Bool) (P : Type 0) → b ≡ is_ok r → OnOk r P → IsTrue b → P
passed (Ok u) b P e h t = h
passed (Err x) b P e h t = absurd (grind (arith, e, t))

pub only_is : (plans : List Schedule) (s t : Schedule) → plans ≡ t ∷ [] → s ≡ get_or plans 0 s → s ≡ t
only_is plans s t f e = e ∙ ap (λ (l : List Schedule). get_or l 0 s) f

pub first_is : (plans : List Schedule) (s : Schedule) → plans ≡ loop_schedule ∷ idle_schedule ∷ [] → s ≡ get_or plans 0 s → s ≡ loop_schedule
first_is plans s f e = e ∙ ap (λ (l : List Schedule). get_or l 0 s) f

pub second_is : (plans : List Schedule) (s : Schedule) → plans ≡ loop_schedule ∷ idle_schedule ∷ [] → s ≡ get_or plans 1 s → s ≡ idle_schedule
second_is plans s f e = e ∙ ap (λ (l : List Schedule). get_or l 1 s) f

pub shape_in : (set whole : ModeSet) (i : ℕ) (s t : Schedule) → set ≡ whole → s ≡ t → HasShape (plain_at whole i) (length t.starts) t → HasShape (plain_at set i) (length s.starts) s
shape_in set whole i s t e f h =
    subst (λ (x : ModeSet). HasShape (plain_at x i) (length s.starts) s) (sym e) (subst (λ (y : Schedule). HasShape (plain_at whole i) (length y.starts) y) (sym f) h)

pub times_in : (s t : Schedule) → s ≡ t → HasTimes t → HasTimes s
times_in s t f h = subst HasTimes (sym f) h

abbrev Right : ModeSet → ℕ → Schedule → Type 0
Right set i s = IsSchedule (plain_at set i) (length s.starts) s

pub right_at : (set : ModeSet) (i : ℕ) (plans : List Schedule) (s : Schedule) → i < length plans → s ≡ get_or plans i s → Right set i s → Right set i (get_or plans i no_schedule)
right_at set i plans s l e r = subst (λ (y : Schedule). Right set i y) (e ∙ get_or_default plans i s no_schedule l) r

pub only_plans : (set : ModeSet) (plans : List Schedule) (mode : Mode) (s : Schedule) → set ≡ set_with (mode ∷ []) → plans ≡ s ∷ [] → Right set 0 (get_or plans 0 no_schedule) → AreSchedules set plans
only_plans set plans mode s e f r = record {
  one_each = ap length f ∙ sym (ap (λ (x : ModeSet). length x.modes) e);
  right = λ i l. by_place i (omega (arith, l, ap (λ (x : ModeSet). length x.modes) e));
}
  where
    by_place : (i : ℕ) → i < 1 → Right set i (get_or plans i no_schedule)
    by_place zero l = r
    by_place (suc i) l = absurd (omega (arith, l))

pub both_plans : (set : ModeSet) (plans : List Schedule) → set ≡ set_with (loop_mode ∷ idle_mode ∷ []) → plans ≡ loop_schedule ∷ idle_schedule ∷ []
    → Right set 0 (get_or plans 0 no_schedule) → Right set 1 (get_or plans 1 no_schedule) → AreSchedules set plans
both_plans set plans e f r q = record {
  one_each = ap length f ∙ sym (ap (λ (x : ModeSet). length x.modes) e);
  right = λ i l. by_place i (omega (arith, l, ap (λ (x : ModeSet). length x.modes) e));
}
  where
    by_place : (i : ℕ) → i < 2 → Right set i (get_or plans i no_schedule)
    by_place zero l = r
    by_place (suc zero) l = q
    by_place (suc (suc i)) l = absurd (omega (arith, l))
