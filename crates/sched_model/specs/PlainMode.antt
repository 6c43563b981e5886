-- A mode in plain numbers and lists, as all definitions of schedules see it. Durations are natural numbers, in ticks.
-- Tasks and messages go by their places in the mode, from 0 in file order.
use Rattle.std.specs.Prelude.{ℕ, suc, ◌/◌, cond, nat_eq, List, [], ◌∷◌, ◌++◌, length, map, sum_by, fold, ◌*◌, slice_index_or, unsigned_abs}
use Rattle.std.specs.List.{flat_map}
use Rattle.app_graph.specs.declared.mode_set.ModeSet.{ModeSet}
use Rattle.app_graph.specs.declared.mode_set.Mode.{Mode}
use Rattle.app_graph.specs.declared.mode_set.App.{App}
use Rattle.app_graph.specs.declared.mode_set.Task.{Task}
use Rattle.app_graph.specs.Hyperperiod.{lcm}
use Rattle.sched_model.specs.Numbers.{below}

-- a task: its number over the file, the places of its application and node, how long a run takes, and its application's period and deadline
pub record PlainTask : Type 0 where
  pub number : ℕ
  pub app : ℕ
  pub node : ℕ
  pub wcet : ℕ
  pub period : ℕ
  pub deadline : ℕ

-- a message: its number over the file, its application's period and deadline, how many round instances of a window carry it,
-- and the places of its producers and consumers
pub record PlainMessage : Type 0 where
  pub number : ℕ
  pub period : ℕ
  pub deadline : ℕ
  pub copies : ℕ
  pub from : List ℕ
  pub to : List ℕ

-- a mode: the slots of a round, its length and the greatest gap, the applications' periods, the tasks and the messages
pub record PlainMode : Type 0 where
  pub slots : ℕ
  pub round : ℕ
  pub gap : ℕ
  pub periods : List ℕ
  pub tasks : List PlainTask
  pub messages : List PlainMessage

-- what stands for a task past the last one
abbrev pub no_task : PlainTask
no_task = record { number = 0; app = 0; node = 0; wcet = 0; period = 0; deadline = 0 }

-- what stands for a message past the last one
abbrev pub no_message : PlainMessage
no_message = record { number = 0; period = 0; deadline = 0; copies = 0; from = []; to = [] }

-- the task at this place
abbrev pub task_at : PlainMode → ℕ → PlainTask
task_at m a = slice_index_or m.tasks a no_task

-- the message at this place
abbrev pub message_at : PlainMode → ℕ → PlainMessage
message_at m i = slice_index_or m.messages i no_message

-- the hyperperiod, the least common multiple of the periods
unfoldable pub hyper : PlainMode → ℕ
hyper m = fold lcm 1 m.periods

-- how many windows of a message open in a hyperperiod
abbrev pub instance_count : PlainMode → PlainMessage → ℕ
instance_count m msg = hyper m / msg.period

-- how many slots a message needs in a hyperperiod: in each window one for each copy
abbrev pub copy_count : PlainMode → PlainMessage → ℕ
copy_count m msg = msg.copies * instance_count m msg

-- how many slots all messages need in a hyperperiod
abbrev pub instances : PlainMode → ℕ
instances m = sum_by (λ i. copy_count m (message_at m i)) (below (length m.messages))

-- the most rounds that a hyperperiod has room for
abbrev pub most_rounds : PlainMode → ℕ
most_rounds m = hyper m / m.round

-- ---- the plain mode of a mode of a set

-- a task of a mode with its application and that one's place
pub record TaskOfApp : Type 0 where
  pub place : ℕ
  pub app : App
  pub task : Task

-- all tasks of applications with the places n, n + 1, .., in file order
abbrev pub tasks_of : ℕ → List App → List TaskOfApp
tasks_of n [] = []
tasks_of n (app ∷ apps) = map (λ t. record { place = n; app = app; task = t }) app.tasks ++ tasks_of (suc n) apps

-- the place of the task with this number
abbrev pub place_of : List TaskOfApp → ℕ → ℕ
place_of [] number = 0
place_of (t ∷ ts) number = cond (nat_eq t.task.number number) 0 (suc (place_of ts number))

-- the task in plain numbers
abbrev pub plain_task : TaskOfApp → PlainTask
plain_task t = record { number = t.task.number; app = t.place; node = t.task.node; wcet = unsigned_abs t.task.wcet; period = unsigned_abs t.app.period; deadline = unsigned_abs t.app.deadline }

-- all messages of applications, in file order, where the mode has these tasks
abbrev pub plain_messages : List TaskOfApp → List App → List PlainMessage
plain_messages ts apps = flat_map (λ app. map (λ msg. record { number = msg.number; period = unsigned_abs app.period; deadline = unsigned_abs app.deadline; copies = msg.copies; from = map (place_of ts) msg.from; to = map (place_of ts) msg.to }) app.messages) apps

-- the plain mode of a mode of the set
abbrev pub plain_mode : ModeSet → Mode → PlainMode
plain_mode set mode =
    let ts = tasks_of 0 mode.apps in
    record {
      slots = set.slots;
      round = unsigned_abs set.round;
      gap = unsigned_abs set.gap;
      periods = map (λ app. unsigned_abs app.period) mode.apps;
      tasks = map plain_task ts;
      messages = plain_messages ts mode.apps;
    }

-- the mode of this number, from 0
abbrev pub mode_at : ModeSet → ℕ → Mode
mode_at set i = slice_index_or set.modes i (record { name = []; apps = [] })

-- its plain mode
abbrev pub plain_at : ModeSet → ℕ → PlainMode
plain_at set i = plain_mode set (mode_at set i)
