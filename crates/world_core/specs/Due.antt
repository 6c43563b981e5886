-- The tasks of a mode by the ticks in which their runs start and end. Ticks count from the hyperperiod's start
use Rattle.std.specs.Prelude.{◌≡◌, ℕ, ◌+◌, ◌%◌, ◌<◌, ◌≤◌, false, nat_eq, List, length, map, filter, slice_index_or, All, unsigned_abs, ℤ, pos}
use Rattle.std.specs.List.{flat_map}
use Rattle.sched_model.specs.declared.rows.TaskRow.{TaskRow}
use Rattle.sched_model.specs.Numbers.{below}
use Rattle.sched_model.specs.PlainMode.{task_at}
use Rattle.runtime_model.specs.Plans.{Plan, offset}
use Rattle.node_tables.specs.OwnParts.{no_row}
use Rattle.world_core.specs.declared.due.DueTask.{DueTask}

-- the task of the plan at place a
abbrev pub due_task : Plan → ℕ → DueTask
due_task p a =
    let t = task_at p.mode a in
    record { number = t.number; node = t.node; period = t.period; start = offset p a % t.period; end = (offset p a + t.wcet) % t.period }

-- those of these tasks that are on node v
abbrev pub on_node : List DueTask → ℕ → List DueTask
on_node tasks v = filter (λ t. nat_eq t.node v) tasks

-- these tasks by node number, those of a node in the same order
abbrev pub in_order : List DueTask → ℕ → List DueTask
in_order tasks nodes = flat_map (on_node tasks) (below nodes)

-- the tasks of the plan by node number, those of a node in file order
abbrev pub ordered_tasks : ℕ → Plan → List DueTask
ordered_tasks nodes p = in_order (map (due_task p) (below (length p.mode.tasks))) nodes

-- the task of a row whose first run starts at the offset
abbrev pub due_row : TaskRow → ℤ → DueTask
due_row t offset = record { number = t.number; node = t.node; period = t.period; start = unsigned_abs offset % t.period; end = (unsigned_abs offset + t.wcet) % t.period }

-- the same of the row at place a
abbrev pub due_place : List TaskRow → List ℤ → ℕ → DueTask
due_place tasks offsets a = due_row (slice_index_or tasks a no_row) (slice_index_or offsets a (pos 0))

-- a task has a period
abbrev pub HasPeriod : TaskRow → Type 0
HasPeriod t = 1 ≤ t.period

-- a task's period is within the limits, and its ticks are below it
pub record IsDueTask (t : DueTask) : Type 0 where
  pub some : 1 ≤ t.period
  pub most : t.period ≤ 1000000000
  pub start : t.start < t.period
  pub end : t.end < t.period

-- no tick from one on and before another leaves this place modulo the period
abbrev pub NeverAt : ℕ → ℕ → ℕ → ℕ → Type 0
NeverAt from until place period = (u : ℕ) → from ≤ u → u < until → nat_eq place (u % period) ≡ false

-- the task neither starts nor ends at tick u
abbrev pub IsIdle : ℕ → DueTask → Type 0
IsIdle u t = (nat_eq t.end (u % t.period) ≡ false) × (nat_eq t.start (u % t.period) ≡ false)

-- none of the tasks does, from one tick on and before another
abbrev pub NoTask : List DueTask → ℕ → ℕ → Type 0
NoTask tasks from until = (u : ℕ) → from ≤ u → u < until → All (IsIdle u) tasks

-- no round of these starts begins then
abbrev pub NoRound : List ℤ → ℕ → ℕ → Type 0
NoRound starts from until = All (λ z. from ≤ unsigned_abs z → until ≤ unsigned_abs z) starts

-- nothing is due then
pub record IsQuiet (tasks : List DueTask) (starts : List ℤ) (from until : ℕ) : Type 0 where
  pub no_task : NoTask tasks from until
  pub no_round : NoRound starts from until
