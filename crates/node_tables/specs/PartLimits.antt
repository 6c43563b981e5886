-- How large the parts of a mode are that a node's table is made of
use Rattle.std.specs.Prelude.{◌≡◌, ℕ, ◌<◌, ◌≤◌, All, Contains, List, [], length, slice_index_or}
use Rattle.sched_model.specs.declared.rows.TaskRow.{TaskRow}
use Rattle.sched_model.specs.declared.schedule.Schedule.{Schedule}
use Rattle.node_tables.specs.declared.rows.MessageRow.{MessageRow}
use Rattle.node_tables.specs.OwnParts.{slot_kept}

-- a task's period and wcet are within the limits
abbrev pub IsTaskRow : TaskRow → Type 0
IsTaskRow t = (t.period ≤ 1000000000) × (t.wcet ≤ 1000000000)

-- so is a message's period
abbrev pub IsMessageRow : MessageRow → Type 0
IsMessageRow m = (1 ≤ m.period) × (m.period ≤ 1000000000)

-- a table has few messages
abbrev pub FewSlots : List ℕ → Type 0
FewSlots table = length table ≤ 32

-- a schedule has a window for each of n messages, and a table for each round, which has few messages
pub record HasSizes (s : Schedule) (n : ℕ) : Type 0 where
  pub windows : length s.messages ≡ n
  pub tables : length s.tables ≡ length s.starts
  pub few : All FewSlots s.tables

-- each slot of a round carries one of few copies
abbrev pub FewCopies : List MessageRow → Schedule → ℕ → Type 0
FewCopies messages s hyper =
    (j n : ℕ) → j < length s.starts → Contains (slice_index_or s.tables j []) n → (slot_kept messages s hyper j 0 n).copy ≤ 4
