-- The mode set that a mode file as it is written says: names become numbers
use Rattle.std.specs.Prelude.{ℕ, ◌+◌, List, [], ◌∷◌, length, map, sum_by, position, unwrap_or, unsigned_abs, All, pos, ◌≤ℤ◌}
use Rattle.std.specs.Str.{bytes_eq}
use Rattle.app_graph.specs.declared.raw.RawTask.{RawTask}
use Rattle.app_graph.specs.declared.raw.RawMessage.{RawMessage}
use Rattle.app_graph.specs.declared.raw.RawApp.{RawApp}
use Rattle.app_graph.specs.declared.raw.RawMode.{RawMode}
use Rattle.app_graph.specs.declared.raw.RawSet.{RawSet}
use Rattle.app_graph.specs.declared.mode_set.Task.{Task}
use Rattle.app_graph.specs.declared.mode_set.Message.{Message}
use Rattle.app_graph.specs.declared.mode_set.App.{App}
use Rattle.app_graph.specs.declared.mode_set.Mode.{Mode}
use Rattle.app_graph.specs.declared.mode_set.ModeSet.{ModeSet}
use Rattle.app_graph.specs.ValueRules.{most_copies}

-- the place, from 0, of the first node with the name
abbrev pub node_place : List (List ℕ) → List ℕ → ℕ
node_place nodes name = unwrap_or (position (bytes_eq name) nodes) 0

-- the place, from 0, of the first task with the name
abbrev pub task_place : List RawTask → List ℕ → ℕ
task_place tasks name = unwrap_or (position (λ t. bytes_eq name t.name) tasks) 0

-- a task with the number n
abbrev pub task_of : List (List ℕ) → ℕ → RawTask → Task
task_of nodes n t = record { name = t.name; node = node_place nodes t.node; wcet = t.wcet; body = t.body; number = n }

-- tasks with the numbers n, n + 1, ..
abbrev pub tasks_from : List (List ℕ) → ℕ → List RawTask → List Task
tasks_from nodes n [] = []
tasks_from nodes n (t ∷ ts) = task_of nodes n t ∷ tasks_from nodes (n + 1) ts

-- the numbers of the named tasks of an application, whose tasks have the numbers t, t + 1, ..
abbrev pub numbers_of : ℕ → List RawTask → List (List ℕ) → List ℕ
numbers_of t tasks names = map (λ name. t + task_place tasks name) names

-- a message has one copy or more, and not too many
abbrev pub HasCopies : RawMessage → Type 0
HasCopies m = (pos 1 ≤ℤ m.copies) × (m.copies ≤ℤ pos most_copies)

-- each message of the applications has
abbrev pub HaveCopies : List RawApp → Type 0
HaveCopies apps = All (λ a. All HasCopies a.messages) apps

-- a message with the number n
abbrev pub message_of : ℕ → List RawTask → ℕ → RawMessage → Message
message_of t tasks n m = record { name = m.name; from = numbers_of t tasks m.from; to = numbers_of t tasks m.to; number = n; copies = unsigned_abs m.copies }

-- messages with the numbers n, n + 1, ..
abbrev pub messages_from : ℕ → List RawTask → ℕ → List RawMessage → List Message
messages_from t tasks n [] = []
messages_from t tasks n (m ∷ ms) = message_of t tasks n m ∷ messages_from t tasks (n + 1) ms

-- an application whose first task has the number t and whose first message has the number m
abbrev pub app_of : List (List ℕ) → ℕ → ℕ → RawApp → App
app_of nodes t m a = record {
  name = a.name;
  period = a.period;
  deadline = a.deadline;
  tasks = tasks_from nodes t a.tasks;
  messages = messages_from t a.tasks m a.messages;
}

-- applications, the same from the first one on
abbrev pub apps_from : List (List ℕ) → ℕ → ℕ → List RawApp → List App
apps_from nodes t m [] = []
apps_from nodes t m (a ∷ rest) = app_of nodes t m a ∷ apps_from nodes (t + length a.tasks) (m + length a.messages) rest

-- how many tasks a mode has
abbrev pub task_count : RawMode → ℕ
task_count mode = sum_by (λ a. length a.tasks) mode.apps

-- how many messages a mode has
abbrev pub message_count : RawMode → ℕ
message_count mode = sum_by (λ a. length a.messages) mode.apps

-- a mode
abbrev pub mode_of : List (List ℕ) → ℕ → ℕ → RawMode → Mode
mode_of nodes t m mode = record { name = mode.name; apps = apps_from nodes t m mode.apps }

-- modes, the same over the whole file
abbrev pub modes_from : List (List ℕ) → ℕ → ℕ → List RawMode → List Mode
modes_from nodes t m [] = []
modes_from nodes t m (mode ∷ rest) = mode_of nodes t m mode ∷ modes_from nodes (t + task_count mode) (m + message_count mode) rest

-- the mode set that the file says
abbrev pub set_of : RawSet → ModeSet
set_of raw = record {
  slots = unsigned_abs raw.slots;
  round = raw.round;
  gap = raw.gap;
  host = node_place raw.nodes raw.host;
  nodes = raw.nodes;
  modes = modes_from raw.nodes 0 0 raw.modes;
}
