-- The list of choices that a schedule has
use Rattle.std.specs.Prelude.{◌≡◌, ℕ, ◌-◌, ◌/◌, ◌%◌, ◌<◌, cond, nat_lt, nat_eq, [], List, length, slice_index_or, ℤ}
use Rattle.tick_num.specs.Differences.{MeetsAll}
use Rattle.sched_model.specs.declared.schedule.Schedule.{Schedule}
use Rattle.sched_model.specs.Numbers.{has}
use Rattle.sched_model.specs.PlainMode.{PlainMode, message_at}
use Rattle.sched_model.specs.Rounds.{round_start, task_start, opens, closes}
use Rattle.sched_model.specs.ConstraintProblem.{decisions, in_force}
use Rattle.sched_model.specs.OpenPrefix.{Chosen}
use Rattle.sched_model.specs.PrintedSchedule.{names}

-- the openings and closings by turns
abbrev pub window_value : Schedule → ℕ → ℤ
window_value s y = cond (nat_eq (y % 2) 0) (opens s (y / 2)) (closes s (y / 2))

-- the tasks' starts, then those
abbrev pub task_value : PlainMode → Schedule → ℕ → ℤ
task_value m s y = cond (nat_lt y (length m.tasks)) (task_start s y) (window_value s (y - length m.tasks))

-- the times of the schedule as values of the variables
abbrev pub values_of : PlainMode → ℕ → Schedule → ℕ → ℤ
values_of m r s x = cond (nat_lt x r) (round_start s x) (task_value m s (x - r))

-- the schedule is one of this list: its times meet the constraints of the choices, and its tables have the messages that they name
pub record HasList (m : PlainMode) (r : ℕ) (s : Schedule) (p : List ℤ) : Type 0 where
  pub full : length p ≡ length (decisions m)
  pub chosen : Chosen m r p
  pub met : MeetsAll (values_of m r s) (in_force m r p)
  pub tables : (i j : ℕ) → i < length m.messages → j < r → has (slice_index_or s.tables j []) (message_at m i).number ≡ names m r p j i
