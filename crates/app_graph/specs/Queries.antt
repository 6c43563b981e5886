-- First and last tasks, and how late a task may start
use Rattle.std.specs.Prelude.{ℕ, Bool, not, nat_eq, if◌then◌else◌, List, [], ◌∷◌, All, ℤ, pos, ◌+ℤ◌, ◌-ℤ◌, ◌≤ℤ◌, Option, Some, None, unwrap_or}
use Rattle.std.specs.List.{list_any}
use Rattle.std.specs.Option.{option_or}
use Rattle.app_graph.specs.declared.mode_set.Task.{Task}
use Rattle.app_graph.specs.declared.mode_set.Message.{Message}
use Rattle.app_graph.specs.declared.mode_set.App.{App}
use Rattle.app_graph.specs.declared.mode_set.Mode.{Mode}
use Rattle.app_graph.specs.declared.mode_set.ModeSet.{ModeSet}

-- the task with the number is a producer of the message
abbrev pub produces : Message → ℕ → Bool
produces m task = list_any (λ t. nat_eq t task) m.from

-- it is a consumer of the message
abbrev pub consumes : Message → ℕ → Bool
consumes m task = list_any (λ t. nat_eq t task) m.to

-- some message of the set passes the test
abbrev pub any_message : (Message → Bool) → ModeSet → Bool
any_message test set = list_any (λ mode. list_any (λ app. list_any test app.messages) mode.apps) set.modes

-- a first task consumes no message
abbrev pub is_first_in : ModeSet → ℕ → Bool
is_first_in set task = not (any_message (λ m. consumes m task) set)

-- a last task is the producer of none
abbrev pub is_last_in : ModeSet → ℕ → Bool
is_last_in set task = not (any_message (λ m. produces m task) set)

-- the times of an application: its period, its deadline, and the wcet of each task within the period
pub record Times (app : App) : Type 0 where
  pub period : (pos 1 ≤ℤ app.period) × (app.period ≤ℤ pos 1000000000)
  pub deadline : (pos 1 ≤ℤ app.deadline) × (app.deadline ≤ℤ pos 1000000000000)
  pub wcet : All (λ t. (pos 1 ≤ℤ t.wcet) × (t.wcet ≤ℤ app.period)) app.tasks

-- the greatest offset that a task of an application may have: P - 1 + D - e
abbrev pub latest : App → Task → ℤ
latest app t = app.period -ℤ pos 1 +ℤ app.deadline -ℤ t.wcet

-- that of the first of the tasks with the number
abbrev pub offset_in_app : ℕ → App → List Task → Option ℤ
offset_in_app task app [] = None
offset_in_app task app (t ∷ ts) = if nat_eq t.number task then Some (latest app t) else offset_in_app task app ts

-- the same over applications
abbrev pub offset_in_apps : ℕ → List App → Option ℤ
offset_in_apps task [] = None
offset_in_apps task (a ∷ apps) = option_or (offset_in_app task a a.tasks) (offset_in_apps task apps)

-- the same over modes
abbrev pub offset_in_modes : ℕ → List Mode → Option ℤ
offset_in_modes task [] = None
offset_in_modes task (m ∷ modes) = option_or (offset_in_apps task m.apps) (offset_in_modes task modes)

-- the greatest offset of the task with the number; 0 where there is none
abbrev pub greatest_offset_in : ModeSet → ℕ → ℤ
greatest_offset_in set task = unwrap_or (offset_in_modes task set.modes) (pos 0)
