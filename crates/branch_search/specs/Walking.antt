-- A search under way: what the nodes so far show, and what is known at the prefix that is due
use Rattle.std.specs.Prelude.{◌≡◌, ℕ, zero, suc, ◌-◌, ◌<◌, Option, Some, None, List, [], ◌∷◌, ◌++◌, length, take, map, All, ℤ, ◌≤ℤ◌}
use Rattle.tick_num.specs.declared.differences.Diff.{Diff}
use Rattle.sched_model.specs.declared.trees.TreeNode.{TreeNode}
use Rattle.sched_model.specs.Numbers.{span}
use Rattle.sched_model.specs.PlainMode.{PlainMode}
use Rattle.sched_model.specs.ConstraintProblem.{alternatives, decisions, in_force}
use Rattle.sched_model.specs.OpenPrefix.{Open}
use Rattle.sched_model.specs.RefutationTree.{Node, branch, EachOf, OwnFrom, node_of, IsStored}
use Rattle.diff_store.specs.Bounds.{Small}
use Rattle.constraint_set.specs.Loads.{Tally, first, tally_of}
use Rattle.branch_search.specs.Stacks.{at_}
use Rattle.branch_search.specs.Forcing.{Fronts}

-- the nodes are an own tree of p, whatever nodes come after; n decisions are left
abbrev pub Whole : PlainMode → ℕ → ℕ → List ℤ → List Node → Type 0
Whole m r n p nodes = (rest : List Node) → OwnFrom m r n p (nodes ++ rest) rest

-- the nodes are own trees, one for each of these choices after p; n decisions are left after each
abbrev pub Trees : PlainMode → ℕ → ℕ → List ℤ → List ℤ → List Node → Type 0
Trees m r n p bs nodes = (rest : List Node) → EachOf (λ a. OwnFrom m r n (p ++ a ∷ [])) bs (nodes ++ rest) rest

-- p is open, and its alternatives are those whose trees the nodes are, and then those from a to high
pub record Level (m : PlainMode) (r n : ℕ) (p : List ℤ) (a high : ℤ) (nodes : List Node) : Type 0 where
  pub is_open : Open m r p
  pub passed : List ℤ
  pub alternatives : alternatives m r p ≡ passed ++ span a high
  pub left : a ≤ℤ high
  pub trees : Trees m r n p passed nodes

-- the nodes are those visited before the first k choices of p: at each of these levels a branch, and the trees of the alternatives passed
abbrev pub Reached : PlainMode → ℕ → ℕ → List ℤ → List ℤ → List Node → Type 0
Reached m r zero p highs nodes = nodes ≡ []
Reached m r (suc k) p highs nodes =
    (above : List Node) × (trees : List Node) × (k < length (decisions m)) × Reached m r k p highs above
    × Level m r (length (decisions m) - suc k) (take k p) (at_ p k) (at_ highs k) trees × (nodes ≡ above ++ branch ∷ trees)

-- the nodes are visited before the prefix, which is due next
pub record Standing (m : PlainMode) (r : ℕ) (prefix highs : List ℤ) (nodes : List TreeNode) (refs : List ℕ) : Type 0 where
  pub same : length highs ≡ length prefix
  pub reached : Reached m r (length prefix) prefix highs (map (node_of refs) nodes)
  pub stored : All (IsStored refs) nodes

-- a constraint on the first n variables, with its bound within what a store takes
abbrev pub Fits : ℕ → Diff → Type 0
Fits n d = (d.x < n) × (d.y < n) × Small d

-- the loads of the rounds begin with those of the choices before the last one of the prefix
abbrev pub FrontTally : PlainMode → ℕ → List ℤ → Tally → Type 0
FrontTally m r prefix loads = first (length prefix - 1) loads ≡ tally_of m r (take (length prefix - 1) prefix)

-- the node is a leaf at the prefix
abbrev pub IsLeaf : PlainMode → ℕ → List ℤ → Node → Type 0
IsLeaf m r prefix node = (n : ℕ) → Whole m r n prefix (node ∷ [])

-- what is seen at the prefix: a leaf, whose numbers come after those that there were; or that it is open, with all constraints in force in the list
abbrev pub Sees : PlainMode → ℕ → List ℤ → List Diff → List ℕ → List ℕ → Option TreeNode → Type 0
Sees m r prefix list refs refs' (Some node) = IsLeaf m r prefix (node_of refs' node) × IsStored refs' node × ((more : List ℕ) × (refs' ≡ refs ++ more)) × Fronts m r prefix list
Sees m r prefix list refs refs' None = Open m r prefix × (list ≡ in_force m r prefix) × (refs' ≡ refs)
