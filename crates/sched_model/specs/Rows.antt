-- Tasks and messages with their applications, by their places in a mode
use Rattle.std.specs.Prelude.{◌≡◌, ℕ, suc, ◌≤◌, cond, nat_eq, List, [], ◌∷◌, ◌++◌, map, slice_index_or, pos, unsigned_abs, sum_by, ◌*◌, ◌/◌}
use Rattle.app_graph.specs.declared.mode_set.App.{App}
use Rattle.app_graph.specs.declared.mode_set.Task.{Task}
use Rattle.app_graph.specs.declared.mode_set.Message.{Message}
use Rattle.sched_model.specs.declared.rows.TaskRow.{TaskRow}
use Rattle.sched_model.specs.PlainMode.{PlainTask, PlainMessage}

-- a task with its application
pub record TaskIn : Type 0 where
  pub app : App
  pub task : Task

-- a message with its application
pub record MessageIn : Type 0 where
  pub app : App
  pub message : Message

-- how many slots the messages of an application need in h ticks: in each period one for each copy
unfoldable pub slots_by : ℕ → App → ℕ
slots_by h a = sum_by (λ m. m.copies * (h / unsigned_abs a.period)) a.messages

-- all tasks of the applications, in file order
abbrev pub tasks_in : List App → List TaskIn
tasks_in [] = []
tasks_in (app ∷ apps) = map (λ t. record { app = app; task = t }) app.tasks ++ tasks_in apps

-- all messages of the applications, in file order
abbrev pub messages_in : List App → List MessageIn
messages_in [] = []
messages_in (app ∷ apps) = map (λ m. record { app = app; message = m }) app.messages ++ messages_in apps

-- what stands for an application past the last one
abbrev pub no_app : App
no_app = record { name = []; period = pos 0; deadline = pos 0; tasks = []; messages = [] }

-- the task at this place
abbrev pub task_in : List App → ℕ → TaskIn
task_in apps a = slice_index_or (tasks_in apps) a (record { app = no_app; task = record { name = []; node = 0; wcet = pos 0; body = []; number = 0 } })

-- the message at this place
abbrev pub message_in : List App → ℕ → MessageIn
message_in apps i = slice_index_or (messages_in apps) i (record { app = no_app; message = record { name = []; from = []; to = []; number = 0; copies = 0 } })

-- the row of a task
abbrev pub row_of : TaskIn → TaskRow
row_of t = record { number = t.task.number; node = t.task.node; wcet = unsigned_abs t.task.wcet; period = unsigned_abs t.app.period; deadline = unsigned_abs t.app.deadline }

-- the place of the task with this number
abbrev pub place_in : List TaskIn → ℕ → ℕ
place_in [] number = 0
place_in (t ∷ ts) number = cond (nat_eq t.task.number number) 0 (suc (place_in ts number))

-- the same among the tasks of one application
abbrev pub index_of : List Task → ℕ → ℕ
index_of [] number = 0
index_of (t ∷ ts) number = cond (nat_eq t.number number) 0 (suc (index_of ts number))

-- the message in plain numbers, where these are the tasks of its mode
abbrev pub plain_message : List TaskIn → MessageIn → PlainMessage
plain_message ts m = record { number = m.message.number; period = unsigned_abs m.app.period; deadline = unsigned_abs m.app.deadline; copies = m.message.copies; from = map (place_in ts) m.message.from; to = map (place_in ts) m.message.to }

-- these are the numbers of the message, and the numbers of its producers and its consumers, which are tasks of the mode
pub record ShowsMessage (ts : List TaskIn) (m : MessageIn) (msg : PlainMessage) : Type 0 where
  pub number : m.message.number ≡ msg.number
  pub period : unsigned_abs m.app.period ≡ msg.period
  pub deadline : unsigned_abs m.app.deadline ≡ msg.deadline
  pub copies : m.message.copies ≡ msg.copies
  pub from : map (place_in ts) m.message.from ≡ msg.from
  pub to : map (place_in ts) m.message.to ≡ msg.to
  pub period_some : 1 ≤ msg.period
  pub period_most : msg.period ≤ 1000000000
  pub deadline_most : msg.deadline ≤ 1000000000000

-- the row has the numbers of the task, which are within the limits
pub record ShowsTask (row : TaskRow) (t : PlainTask) : Type 0 where
  pub number : row.number ≡ t.number
  pub node : row.node ≡ t.node
  pub wcet : row.wcet ≡ t.wcet
  pub period : row.period ≡ t.period
  pub deadline : row.deadline ≡ t.deadline
  pub wcet_some : 1 ≤ row.wcet
  pub within : row.wcet ≤ row.period
  pub period_most : row.period ≤ 1000000000
  pub deadline_most : row.deadline ≤ 1000000000000
