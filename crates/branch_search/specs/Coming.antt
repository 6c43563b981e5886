-- What comes after a visited prefix
use Rattle.std.specs.Prelude.{◌≡◌, ℕ, suc, List, length, ℤ, ⊤}
use Rattle.tick_num.specs.declared.differences.Diff.{Diff}
use Rattle.sched_model.specs.declared.trees.TreeNode.{TreeNode}
use Rattle.sched_model.specs.PlainMode.{PlainMode}
use Rattle.sched_model.specs.ConstraintProblem.{in_force}
use Rattle.sched_model.specs.SearchCost.{Visited, LeadsAt}
use Rattle.sched_model.specs.PrintedSchedule.{FirstList}
use Rattle.sched_model.specs.RefutationTree.{OwnTree}
use Rattle.branch_search.specs.Stacks.{Step, Follows}
use Rattle.branch_search.specs.Stacks as steps
use Rattle.constraint_set.specs.Loads.{Tally}
use Rattle.branch_search.specs.Forcing.{HasSolution, Fronts}
use Rattle.branch_search.specs.Walking.{Standing, FrontTally}
use Rattle.branch_search.specs.declared.walk.Next.{Next}
use Rattle.branch_search.specs.declared.walk.Next.TheVariants.{Due, Found, Refuted}

-- the next stack after a whole tree, or none
abbrev pub IsStep : List ℤ → List ℤ → Step → Next → Type 0
IsStep prefix highs s Due = s ≡ steps.Due prefix highs
IsStep prefix highs s Refuted = s ≡ steps.Complete
IsStep prefix highs s Found = ⊥

-- what is known after the visit of p, before which there were so many nodes
abbrev pub Comes : PlainMode → ℕ → List ℤ → ℕ → List ℤ → List ℤ → List TreeNode → List ℕ → Next → Type 0
Comes m r p before prefix highs nodes refs Due = Standing m r prefix highs nodes refs × Follows p prefix × (length nodes ≡ suc before)
Comes m r p before prefix highs nodes refs Found = FirstList m r prefix × (prefix ≡ p) × LeadsAt m r × Visited m r (suc before)
Comes m r p before prefix highs nodes refs Refuted = OwnTree m r nodes refs × (length nodes ≡ suc before)

-- what the list of constraints is then
abbrev pub Benched : PlainMode → ℕ → List ℤ → List Diff → Next → Type 0
Benched m r prefix list Due = Fronts m r prefix list
Benched m r prefix list Found = (list ≡ in_force m r prefix) × HasSolution list
Benched m r prefix list Refuted = ⊤

-- what the loads of the rounds are then
abbrev pub TallyFor : PlainMode → ℕ → List ℤ → Tally → Next → Type 0
TallyFor m r prefix loads Due = FrontTally m r prefix loads
TallyFor m r prefix loads Found = ⊤
TallyFor m r prefix loads Refuted = ⊤
