-- What a search answers
use Rattle.std.specs.Prelude.{◌≡◌, ℕ, ◌<◌, ◌≤◌, List, length, ℤ}
use Rattle.tick_num.specs.Differences.{LeastValues, listed}
use Rattle.sched_model.specs.declared.trees.TreeNode.{TreeNode}
use Rattle.sched_model.specs.PlainMode.{PlainMode}
use Rattle.sched_model.specs.ConstraintProblem.{vars, in_force}
use Rattle.sched_model.specs.SearchCost.{Visited, LeadsAt}
use Rattle.sched_model.specs.PrintedSchedule.{FirstList}
use Rattle.sched_model.specs.RefutationTree.{OwnTree}
use Rattle.branch_search.specs.declared.canonical.Answer.{Answer}
use Rattle.branch_search.specs.declared.canonical.Answer.TheVariants.{Found, Refuted, Spent}

-- the first full open list with its least values, an own tree, or that more prefixes are visited than the budget
abbrev pub IsAnswer : PlainMode → ℕ → ℕ → Answer → Type 0
IsAnswer m r budget (Found choice values visited) =
    FirstList m r choice × LeastValues (in_force m r choice) (listed values) × (length values ≡ vars m r) × LeadsAt m r × Visited m r visited × (visited ≤ budget)
IsAnswer m r budget (Refuted tree visited) =
    OwnTree m r tree.nodes tree.refs × (visited ≡ length tree.nodes) × Visited m r visited × (visited ≤ budget) × (¬ (LeadsAt m r))
IsAnswer m r budget Spent = (v : ℕ) × Visited m r v × (budget < v)

-- the answer has this tree and number
abbrev pub HasTree : List TreeNode → List ℕ → ℕ → Answer → Type 0
HasTree nodes refs visited (Found choice values n) = ⊥
HasTree nodes refs visited (Refuted tree n) = (tree.nodes ≡ nodes) × (tree.refs ≡ refs) × (n ≡ visited)
HasTree nodes refs visited Spent = ⊥

-- the answer has these choices, values and number
abbrev pub HasList : List ℤ → List ℤ → ℕ → Answer → Type 0
HasList prefix values visited (Found choice vs n) = (choice ≡ prefix) × (vs ≡ values) × (n ≡ visited)
HasList prefix values visited (Refuted tree n) = ⊥
HasList prefix values visited Spent = ⊥
