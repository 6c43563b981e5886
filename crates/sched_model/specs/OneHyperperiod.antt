-- The clauses on all of time as finite tests: each round of one hyperperiod is looked at once, and each two tasks by the classes of
-- the greatest common divisor of their periods
use Rattle.std.specs.Prelude.{◌≡◌, ℕ, ◌*◌, ◌<◌, true, [], length, slice_index_or, All, ℤ, pos, ◌+ℤ◌, ◌-ℤ◌, ◌≤ℤ◌}
use Rattle.std.specs.Int.{int_div_euclid}
use Rattle.tick_num.specs.Classes.{FitsAt}
use Rattle.sched_model.specs.declared.schedule.Schedule.{Schedule}
use Rattle.sched_model.specs.Numbers.{has, natural, gcd}
use Rattle.sched_model.specs.PlainMode.{PlainMode, hyper, task_at, message_at, instance_count}
use Rattle.sched_model.specs.Rounds.{round_start, task_start, opens, closes}
use Rattle.sched_model.specs.RightSchedule.{Exactly, TableFits}

-- ---- S6

-- the one place, counted in greatest common divisors, at which the runs of task b can stand between those of task a
abbrev pub class_place : PlainMode → Schedule → ℕ → ℕ → ℤ
class_place m s a b = int_div_euclid (task_start s b -ℤ task_start s a -ℤ pos (task_at m a).wcet) (pos (gcd (task_at m a).period (task_at m b).period))

-- they stand there
abbrev pub ClassesApart : PlainMode → Schedule → ℕ → ℕ → Type 0
ClassesApart m s a b =
    FitsAt (pos (gcd (task_at m a).period (task_at m b).period)) (pos (task_at m a).wcet) (task_start s a) (pos (task_at m b).wcet) (task_start s b) (class_place m s a b)

-- ---- S7 and S8

-- the table of the round at place j has message i
abbrev pub Lists : PlainMode → Schedule → ℕ → ℕ → Type 0
Lists m s i j = has (slice_index_or s.tables j []) (message_at m i).number ≡ true

-- how many hyperperiods pass until the round at place j starts at the opening of message i's first window or later: the least number of them
abbrev pub wait : PlainMode → Schedule → ℕ → ℕ → ℕ
wait m s i j = natural (int_div_euclid (opens s i -ℤ round_start s j +ℤ pos (hyper m) -ℤ pos 1) (pos (hyper m)))

-- its start then
abbrev pub first_start : PlainMode → Schedule → ℕ → ℕ → ℤ
first_start m s i j = round_start s j +ℤ pos (wait m s i j * hyper m)

-- the window of message i that has opened last by then
abbrev pub window_then : PlainMode → Schedule → ℕ → ℕ → ℕ
window_then m s i j = natural (int_div_euclid (first_start m s i j -ℤ opens s i) (pos (message_at m i).period))

-- the round ends before that window closes
abbrev pub EndsInWindow : PlainMode → Schedule → ℕ → ℕ → Type 0
EndsInWindow m s i j = (first_start m s i j +ℤ pos m.round) ≤ℤ (closes s i +ℤ pos (window_then m s i j * (message_at m i).period))

-- the round at place j carries message i, first in window k
pub record ServesFirst (m : PlainMode) (s : Schedule) (i k j : ℕ) : Type 0 where
  pub within : j < length s.starts
  pub lists : Lists m s i j
  pub which : window_then m s i j ≡ k
  pub ends : EndsInWindow m s i j

-- S7 in one hyperperiod: the tables fit, and each window of a hyperperiod has exactly as many rounds that carry the message in it as
-- it has copies
pub record ServedOnce (m : PlainMode) (s : Schedule) : Type 0 where
  pub tables : All (TableFits m) s.tables
  pub windows : (i k : ℕ) → i < length m.messages → k < instance_count m (message_at m i) → Exactly (message_at m i).copies (ServesFirst m s i k)

-- S8 in one hyperperiod: each round that carries a message ends before the window closes
abbrev pub EntriesFit : PlainMode → Schedule → Type 0
EntriesFit m s = (i j : ℕ) → i < length m.messages → j < length s.starts → Lists m s i j → EndsInWindow m s i j
