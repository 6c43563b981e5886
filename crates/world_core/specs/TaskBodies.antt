-- The bodies of tasks by their names
use Rattle.std.specs.Prelude.{ℕ, Bool, nat_eq, List, length, map, All, Option, position, option_map}
use Rattle.std.specs.List.{flat_map, find}
use Rattle.std.specs.Str.{IsUtf8}
use Rattle.app_graph.specs.declared.mode_set.App.{App}
use Rattle.app_graph.specs.declared.mode_set.Mode.{Mode}
use Rattle.app_graph.specs.declared.mode_set.ModeSet.{ModeSet}
use Rattle.app_graph.specs.declared.mode_set.Task.{Task}
use Rattle.task_body.specs.Body.{BodySeen}
use Rattle.world_core.specs.StandsFor.{body_names, place_of_body}

-- the names of the bodies of an application's tasks, and of a mode's
abbrev pub bodies_in : App → List (List ℕ)
bodies_in app = map (λ t. t.body) app.tasks

abbrev pub bodies_of_mode : Mode → List (List ℕ)
bodies_of_mode mode = flat_map bodies_in mode.apps

-- the names of an application's bodies are texts
abbrev pub HasTexts : App → Type 0
HasTexts app = All (λ t. IsUtf8 t.body) app.tasks

-- no body has this name
abbrev pub is_missing : List BodySeen → List ℕ → Bool
is_missing bodies name = nat_eq (place_of_body bodies name) (length bodies)

-- the number of the first task whose body is missing: a task's number is its place
abbrev pub missing : List BodySeen → ModeSet → Option ℕ
missing bodies set = position (is_missing bodies) (body_names set)

-- the tasks of a mode
abbrev pub tasks_in : Mode → List Task
tasks_in mode = flat_map (λ app. app.tasks) mode.apps

-- the number of the first of these tasks whose body is missing
abbrev pub missing_among : List BodySeen → List Task → Option ℕ
missing_among bodies tasks = option_map (λ t. t.number) (find (λ t. is_missing bodies t.body) tasks)
