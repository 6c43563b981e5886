-- Trees that show that no full list of choices is open, as lists of nodes in preorder
use Rattle.std.specs.Prelude.{◌≡◌, ℕ, zero, suc, ◌+◌, ◌-◌, ◌*◌, ◌<◌, ◌≤◌, ⊤, List, [], ◌∷◌, ◌++◌, length, take, drop, map, All, ℤ}
use Rattle.tick_num.specs.Differences.{NegativeCycle}
use Rattle.sched_model.specs.declared.trees.TreeNode.{TreeNode}
use Rattle.sched_model.specs.declared.trees.TreeNode.TheVariants.{Branch, Short, Full, Cycle}
use Rattle.sched_model.specs.PlainMode.{PlainMode, instances}
use Rattle.sched_model.specs.ConstraintProblem.{in_force, alternatives, decisions, load, vars}
use Rattle.sched_model.specs.OpenPrefix.{Open}

-- a node: one child per alternative of the next decision; too few slots for the message instances; a round, from 1, that is chosen too often;
-- or the numbers of constraints in force that are a negative cycle
pub data Node : Type 0 where
  branch : Node
  short : Node
  full : ℕ → Node
  cycle : List ℕ → Node

-- one tree after another, one for each item, and then the rest
abbrev pub EachOf : (ℤ → List Node → List Node → Type 0) → List ℤ → List Node → List Node → Type 0
EachOf V [] nodes rest = nodes ≡ rest
EachOf V (a ∷ bs) nodes rest = (mid : List Node) × V a nodes mid × EachOf V bs mid rest

-- the nodes begin with a valid tree for the choices p, after which n decisions are left, and then have the rest
abbrev pub ValidFrom : PlainMode → ℕ → ℕ → List ℤ → List Node → List Node → Type 0
ValidFrom m r n p [] rest = ⊥
ValidFrom m r zero p (branch ∷ nodes) rest = ⊥
ValidFrom m r (suc n) p (branch ∷ nodes) rest = EachOf (λ a. ValidFrom m r n (p ++ a ∷ [])) (alternatives m r p) nodes rest
ValidFrom m r n p (short ∷ nodes) rest = (r * m.slots < instances m) × (nodes ≡ rest)
ValidFrom m r n p (full j ∷ nodes) rest = (1 ≤ j) × (j ≤ r) × (m.slots < load m r (j - 1) p) × (nodes ≡ rest)
ValidFrom m r n p (cycle refs ∷ nodes) rest = NegativeCycle (in_force m r p) refs × (nodes ≡ rest)

-- the nodes are one valid tree for the empty list of choices
abbrev pub IsTree : PlainMode → ℕ → List Node → Type 0
IsTree m r nodes = ValidFrom m r (length (decisions m)) [] nodes []

-- ---- the tree that the search gives

-- none of the first n rounds is chosen more often than it has slots
abbrev pub Roomy : PlainMode → ℕ → ℕ → List ℤ → Type 0
Roomy m r n p = (j : ℕ) → j < n → load m r j p ≤ m.slots

-- the same, where the choices decide each node: short where the slots are too few, else the first round that is chosen too often,
-- else a branch where the choices are open, else a cycle of no more constraints than there are variables
abbrev pub OwnFrom : PlainMode → ℕ → ℕ → List ℤ → List Node → List Node → Type 0
OwnFrom m r n p [] rest = ⊥
OwnFrom m r zero p (branch ∷ nodes) rest = ⊥
OwnFrom m r (suc n) p (branch ∷ nodes) rest = Open m r p × EachOf (λ a. OwnFrom m r n (p ++ a ∷ [])) (alternatives m r p) nodes rest
OwnFrom m r n p (short ∷ nodes) rest = (r * m.slots < instances m) × (nodes ≡ rest)
OwnFrom m r n p (full j ∷ nodes) rest = (instances m ≤ r * m.slots) × (1 ≤ j) × (j ≤ r) × Roomy m r (j - 1) p × (m.slots < load m r (j - 1) p) × (nodes ≡ rest)
OwnFrom m r n p (cycle refs ∷ nodes) rest = (instances m ≤ r * m.slots) × Roomy m r r p × (length refs ≤ vars m r) × NegativeCycle (in_force m r p) refs × (nodes ≡ rest)

-- the nodes are one own tree for the empty list of choices
abbrev pub IsOwnTree : PlainMode → ℕ → List Node → Type 0
IsOwnTree m r nodes = OwnFrom m r (length (decisions m)) [] nodes []

-- ---- trees as they are stored: the numbers of all cycles stand in one list beside the nodes

-- what a stored node says
abbrev pub node_of : List ℕ → TreeNode → Node
node_of refs Branch = branch
node_of refs Short = short
node_of refs (Full j) = full j
node_of refs (Cycle from len) = cycle (take len (drop from refs))

-- the numbers of a stored cycle are all there
abbrev pub IsStored : List ℕ → TreeNode → Type 0
IsStored refs Branch = ⊤
IsStored refs Short = ⊤
IsStored refs (Full j) = ⊤
IsStored refs (Cycle from len) = from + len ≤ length refs

-- a valid tree for r rounds
pub record ValidTree (m : PlainMode) (r : ℕ) (nodes : List TreeNode) (refs : List ℕ) : Type 0 where
  pub stored : All (IsStored refs) nodes
  pub tree : IsTree m r (map (node_of refs) nodes)

-- an own tree for r rounds
pub record OwnTree (m : PlainMode) (r : ℕ) (nodes : List TreeNode) (refs : List ℕ) : Type 0 where
  pub stored : All (IsStored refs) nodes
  pub tree : IsOwnTree m r (map (node_of refs) nodes)
