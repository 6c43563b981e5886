-- The messages of a mode out of its tasks in plain numbers
use Rattle.std.specs.Prelude.{ℕ, suc, cond, nat_eq, List, [], ◌∷◌, map, unsigned_abs}
use Rattle.app_graph.specs.declared.mode_set.App.{App}
use Rattle.app_graph.specs.declared.mode_set.Message.{Message}
use Rattle.app_graph.specs.declared.mode_set.Task.{Task}
use Rattle.app_graph.specs.declared.mode_set.ModeSet.{ModeSet}
use Rattle.sched_model.specs.PlainMode.{PlainMode, PlainTask, PlainMessage, plain_task}

-- the place of the task with this number
abbrev pub place_in : List PlainTask → ℕ → ℕ
place_in [] number = 0
place_in (t ∷ ts) number = cond (nat_eq t.number number) 0 (suc (place_in ts number))

-- a task of the application at this place
abbrev pub task_in : ℕ → App → Task → PlainTask
task_in place app task = plain_task (record { place = place; app = app; task = task })

-- a message of the application, where the mode has these tasks
abbrev pub message_in : List PlainTask → App → Message → PlainMessage
message_in ts app msg = record { number = msg.number; period = unsigned_abs app.period; deadline = unsigned_abs app.deadline; copies = msg.copies; from = map (place_in ts) msg.from; to = map (place_in ts) msg.to }

-- a mode of the set's network with these periods, tasks and messages
abbrev pub mode_with : ModeSet → List ℕ → List PlainTask → List PlainMessage → PlainMode
mode_with set periods tasks messages = record { slots = set.slots; round = unsigned_abs set.round; gap = unsigned_abs set.gap; periods = periods; tasks = tasks; messages = messages }
