-- The nodes of the tasks by their numbers over the file
use Rattle.std.specs.Prelude.{◌≡◌, ℕ, ◌<◌, List, length, map, slice_index_or}
use Rattle.std.specs.List.{flat_map}
use Rattle.app_graph.specs.declared.mode_set.App.{App}
use Rattle.app_graph.specs.declared.mode_set.Mode.{Mode}
use Rattle.app_graph.specs.declared.mode_set.ModeSet.{ModeSet}
use Rattle.sched_model.specs.Numbers.{below}
use Rattle.sched_model.specs.PlainMode.{task_at, plain_at}

-- the nodes of an application's tasks
abbrev pub nodes_in : App → List ℕ
nodes_in app = map (λ t. t.node) app.tasks

-- the nodes of all tasks of these modes, in file order
abbrev pub owners_in : List Mode → List ℕ
owners_in modes = flat_map (λ mode. flat_map nodes_in mode.apps) modes

-- the nodes of all tasks of the set: the number of a task is its place among them
pub record AreOwners (set : ModeSet) (owners : List ℕ) : Type 0 where
  pub list : owners ≡ flat_map (λ i. map (λ t. t.node) (plain_at set i).tasks) (below (length set.modes))
  pub node : (i a : ℕ) → i < length set.modes → a < length (plain_at set i).tasks →
      slice_index_or owners (task_at (plain_at set i) a).number 0 ≡ (task_at (plain_at set i) a).node
