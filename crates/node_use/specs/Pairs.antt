-- The pairs of a mode's tasks on one node
use Rattle.std.specs.Prelude.{ℕ, ◌&&◌, cond, nat_eq, nat_lt, List, [], ◌∷◌, length, map, slice_index_or}
use Rattle.std.specs.List.{flat_map}
use Rattle.sched_model.specs.Numbers.{below}
use Rattle.sched_model.specs.PlainMode.{PlainMode, TaskOfApp, task_at}
use Rattle.sched_model.specs.ConstraintProblem.{Decision, serve, order, orders}
use Rattle.node_use.specs.declared.sharing.TaskRow.{TaskRow}

-- the numbers of the two tasks of a decision on tasks
abbrev pub numbers_of : PlainMode → Decision → ℕ × ℕ
numbers_of m (serve i k) = (0, 0)
numbers_of m (order a b) = ((task_at m a).number, (task_at m b).number)

-- the pairs of tasks on one node by the tasks' numbers, in the order of their decisions
abbrev pub pairs_of : PlainMode → List (ℕ × ℕ)
pairs_of m = map (numbers_of m) (flat_map (orders m) (below (length m.tasks)))

-- a task's number and node
abbrev pub row_of : TaskOfApp → TaskRow
row_of t = record { number = t.task.number; node = t.task.node }

-- the row at this place
abbrev pub row_at : List TaskRow → ℕ → TaskRow
row_at rows a = slice_index_or rows a (record { number = 0; node = 0 })

-- rows a and b, where a stands before b on one node
abbrev pub pair_at : List TaskRow → ℕ → ℕ → List (ℕ × ℕ)
pair_at rows a b = cond (nat_lt a b && nat_eq (row_at rows a).node (row_at rows b).node) (((row_at rows a).number, (row_at rows b).number) ∷ []) []

-- row a with the later ones on its node
abbrev pub pairs_with : List TaskRow → ℕ → List (ℕ × ℕ)
pairs_with rows a = flat_map (pair_at rows a) (below (length rows))
