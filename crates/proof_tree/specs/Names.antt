-- The tasks and messages of a mode, and the names of messages.
use Rattle.std.specs.Prelude.{ℕ, nat_eq, List, [], find}
use Rattle.std.specs.List.{flat_map}
use Rattle.std.specs.Option.{option_map_or}
use Rattle.app_graph.specs.declared.mode_set.App.{App}
use Rattle.app_graph.specs.declared.mode_set.Task.{Task}
use Rattle.app_graph.specs.declared.mode_set.Message.{Message}

-- the tasks of applications, in file order
abbrev pub tasks_in : List App → List Task
tasks_in apps = flat_map (λ app. app.tasks) apps

-- the messages of applications, in file order
abbrev pub messages_in : List App → List Message
messages_in apps = flat_map (λ app. app.messages) apps

-- the name of the message of this number
abbrev pub name_of : List Message → ℕ → List ℕ
name_of messages number = option_map_or (λ message. message.name) (find (λ message. nat_eq message.number number) messages) []
