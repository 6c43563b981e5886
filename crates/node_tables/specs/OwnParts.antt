-- A node's part of one mode out of the mode's applications and its schedule. Tasks and messages of a mode have numbers that follow
-- each other, so that a number less the first one is a place
use Rattle.std.specs.Prelude.{ℕ, ◌+◌, ◌-◌, Bool, false, cond, not, ◌&&◌, nat_eq, nat_lt, List, [], ◌∷◌, length, map, filter, slice_index_or, unsigned_abs, ℤ, pos, ◌+ℤ◌, ◌-ℤ◌, ◌*ℤ◌, int_le}
use Rattle.std.specs.Int.{int_div_euclid}
use Rattle.std.specs.List.{flat_map, list_any}
use Rattle.app_graph.specs.declared.mode_set.App.{App}
use Rattle.app_graph.specs.declared.mode_set.Task.{Task}
use Rattle.app_graph.specs.declared.mode_set.Message.{Message}
use Rattle.sched_model.specs.declared.rows.TaskRow.{TaskRow}
use Rattle.sched_model.specs.declared.schedule.Schedule.{Schedule}
use Rattle.sched_model.specs.Numbers.{below, has}
use Rattle.sched_model.specs.Rows.{row_of}
use Rattle.sched_model.specs.ServedCounts.{one_if}
use Rattle.runtime_model.specs.Copies.{copy_of}
use Rattle.node_tables.specs.declared.rows.MessageRow.{MessageRow}
use Rattle.node_tables.specs.declared.tables.ModeTable.{ModeTable}
use Rattle.node_tables.specs.declared.tables.OwnTask.{OwnTask}
use Rattle.node_tables.specs.declared.tables.OwnMessage.{OwnMessage}
use Rattle.node_tables.specs.declared.tables.OwnRound.{OwnRound}
use Rattle.node_tables.specs.declared.tables.OwnSlot.{OwnSlot}

-- ---- tasks

-- the row of a task of the application
abbrev pub row_in : App → Task → TaskRow
row_in app task = row_of (record { app = app; task = task })

-- the rows of all tasks of the applications, in file order
abbrev pub rows_of : List App → List TaskRow
rows_of apps = flat_map (λ app. map (row_in app) app.tasks) apps

-- what stands for a row past the last one
abbrev pub no_row : TaskRow
no_row = record { number = 0; node = 0; wcet = 0; period = 0; deadline = 0 }

-- the number of the first task
abbrev pub first_task : List TaskRow → ℕ
first_task [] = 0
first_task (t ∷ ts) = t.number

-- the task with this number is one of these and is on node v
abbrev pub is_on : List TaskRow → ℕ → ℕ → Bool
is_on tasks v n = nat_lt (n - first_task tasks) (length tasks) && nat_eq (slice_index_or tasks (n - first_task tasks) no_row).node v

-- a task with its offset, as a node keeps it
abbrev pub task_kept : TaskRow → ℤ → OwnTask
task_kept t offset = record { number = t.number; period = pos t.period; offset = offset; wcet = pos t.wcet }

-- the task at a place, if it is on node v
abbrev pub task_part : List TaskRow → List ℤ → ℕ → ℕ → List OwnTask
task_part tasks offsets v a = let t = slice_index_or tasks a no_row in cond (nat_eq t.node v) (task_kept t (slice_index_or offsets a (pos 0)) ∷ []) []

-- the tasks on node v
abbrev pub tasks_kept : List TaskRow → List ℤ → ℕ → List OwnTask
tasks_kept tasks offsets v = flat_map (task_part tasks offsets v) (below (length tasks))

-- ---- messages

-- the first producer is on node v
abbrev pub sent_from : List TaskRow → ℕ → List ℕ → Bool
sent_from tasks v [] = false
sent_from tasks v (a ∷ from) = is_on tasks v a

-- 1 where the node sends, 2 where it takes, 3 for both
abbrev pub role_of : Bool → Bool → ℕ
role_of sends takes = cond sends 1 0 + cond takes 2 0

-- what node v does with a message
abbrev pub role_in : List TaskRow → ℕ → Message → ℕ
role_in tasks v m = role_of (sent_from tasks v m.from) (list_any (is_on tasks v) m.to)

-- a message with what node v does with it, as a node keeps it
abbrev pub message_kept : List TaskRow → ℕ → Message → OwnMessage
message_kept tasks v m = record { number = m.number; role = role_in tasks v m; producers = m.from; consumers = filter (is_on tasks v) m.to }

-- the message, if it is an own one
abbrev pub message_part : List TaskRow → ℕ → Message → List OwnMessage
message_part tasks v m = cond (nat_eq (role_in tasks v m) 0) [] (message_kept tasks v m ∷ [])

-- the own messages of node v
abbrev pub messages_kept : List TaskRow → ℕ → List App → List OwnMessage
messages_kept tasks v apps = flat_map (λ app. flat_map (message_part tasks v) app.messages) apps

-- the row of a message of the application
abbrev pub message_row : List TaskRow → ℕ → App → Message → MessageRow
message_row tasks v app m = record { number = m.number; role = role_in tasks v m; period = unsigned_abs app.period }

-- the rows of all messages of the applications, in file order
abbrev pub message_rows : List TaskRow → ℕ → List App → List MessageRow
message_rows tasks v apps = flat_map (λ app. map (message_row tasks v app) app.messages) apps

-- ---- rounds

-- what stands for a row past the last one
abbrev pub no_message_row : MessageRow
no_message_row = record { number = 0; role = 0; period = 0 }

-- the number of the first message
abbrev pub first_message : List MessageRow → ℕ
first_message [] = 0
first_message (m ∷ ms) = m.number

-- the release of a slot in a round with this start
abbrev pub release_in : ℤ → ℤ → ℕ → ℤ
release_in start opens period = int_div_euclid (start -ℤ opens) (pos period) *ℤ pos period

-- The round at place j has the message with number n and starts from one moment to another, where a hyperperiod begins at this moment
abbrev pub counts : Schedule → ℕ → ℤ → ℤ → ℤ → ℕ → Bool
counts schedule n begin low high j =
    let t = begin +ℤ slice_index_or schedule.starts j (pos 0) in
    has (slice_index_or schedule.tables j []) n && (int_le low t && int_le t high)

-- how often it does in the hyperperiod from moment 0 on and in the one before
abbrev pub counted_at : Schedule → ℕ → ℕ → ℤ → ℤ → ℕ → ℕ
counted_at schedule hyper n low high j =
    one_if (counts schedule n (pos 0 -ℤ pos hyper) low high j) + one_if (counts schedule n (pos 0) low high j)

-- slot s of the round at place j has the message with number n
abbrev pub slot_kept : List MessageRow → Schedule → ℕ → ℕ → ℕ → ℕ → OwnSlot
slot_kept messages schedule hyper j s n =
    let i = n - first_message messages in
    let start = slice_index_or schedule.starts j (pos 0) in
    let opens = (slice_index_or schedule.messages i (pos 0, pos 0)).0 in
    let release = release_in start opens (slice_index_or messages i no_message_row).period in
    record { slot = s; message = n; release = release; copy = copy_of schedule hyper n (opens +ℤ release) start }

-- the slot, if it has an own message
abbrev pub slot_part : List MessageRow → Schedule → ℕ → ℕ → ℕ → ℕ → List OwnSlot
slot_part messages schedule hyper j s n =
    let i = n - first_message messages in
    cond (nat_lt i (length messages) && not (nat_eq (slice_index_or messages i no_message_row).role 0)) (slot_kept messages schedule hyper j s n ∷ []) []

-- the own slots of the round at place j, which has this table
abbrev pub slots_kept : List MessageRow → Schedule → ℕ → ℕ → List ℕ → List OwnSlot
slots_kept messages schedule hyper j table = flat_map (λ k. slot_part messages schedule hyper j (k + 1) (slice_index_or table k 0)) (below (length table))

-- the round at place j
abbrev pub round_kept : List MessageRow → Schedule → ℕ → ℕ → OwnRound
round_kept messages s hyper j = record { start = slice_index_or s.starts j (pos 0); slots = slots_kept messages s hyper j (slice_index_or s.tables j []) }

abbrev pub rounds_kept : List MessageRow → Schedule → ℕ → List OwnRound
rounds_kept messages s hyper = map (round_kept messages s hyper) (below (length s.starts))

-- ---- the mode

-- what node v keeps of a mode with these applications, this hyperperiod and this schedule, whose first round has the number
abbrev pub mode_kept : List App → ℤ → Schedule → ℕ → ℕ → ModeTable
mode_kept apps hyper s first v =
    let tasks = rows_of apps in
    record {
      hyper = hyper;
      first_round = first;
      tasks = tasks_kept tasks s.tasks v;
      messages = messages_kept tasks v apps;
      rounds = rounds_kept (message_rows tasks v apps) s (unsigned_abs hyper);
    }
