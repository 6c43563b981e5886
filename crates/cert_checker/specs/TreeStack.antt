-- A tree that is read line by line: the choices of the prefix whose node is due, the greatest alternative at each of them, and what is still to be read
use Rattle.std.specs.Prelude.{◌≡◌, ℕ, zero, suc, ◌+◌, ◌-◌, ◌<◌, ◌≤◌, Bool, true, false, if◌then◌else◌, nat_lt, ℤ, pos, ◌+ℤ◌, ◌≤ℤ◌, List, [], ◌∷◌, ◌++◌, length, take, slice_index_or, Some, Ok, Err}
use Rattle.tick_num.specs.declared.differences.Diff.{Diff}
use Rattle.sched_model.specs.Numbers.{span}
use Rattle.sched_model.specs.PlainMode.{PlainMode}
use Rattle.sched_model.specs.ConstraintProblem.{alternatives, decisions, in_force}
use Rattle.proof_tree.specs.Items.{Item}
use Rattle.proof_tree.specs.TreeLines.{Items}
use Rattle.proof_tree.specs.Reading.{Place, Read, ◌>>=◌, next_item, each, tree_at, leaf_end, BadLeaf}
use Rattle.constraint_set.specs.Loads.{Tally, tally_of}
use Rattle.cert_checker.specs.declared.walk.Walk.{Walk}

-- the choice at this place
abbrev pub at_ : List ℤ → ℕ → ℤ
at_ xs k = slice_index_or xs k (pos 0)

-- the line with this number and this item, and then the rest
abbrev pub line_at : ℕ → Item → Items → Place
line_at line item rest = record { line = line; rest = Some item ∷ rest }

-- the place behind it
abbrev pub behind_line : ℕ → Items → Place
behind_line line rest = record { line = line + 1; rest = rest }

-- the trees for these choices after p, where n decisions are left after each
abbrev pub trees_for : ℕ → PlainMode → ℕ → ℕ → List ℤ → List ℤ → Place → Read (List (Unit {0}))
trees_for o m r n p choices at = each (λ a to. tree_at o m r n (p ++ a ∷ []) to (next_item to.rest)) choices at

-- the trees that are due beside the one for the first k choices of p: at each of these choices, from the last one up, those of its later alternatives
abbrev pub beside : ℕ → PlainMode → ℕ → List ℤ → List ℤ → ℕ → Place → Read (Unit {0})
beside o m r p g zero at = Ok (tt, at)
beside o m r p g (suc k) at = trees_for o m r (length (decisions m) - suc k) (take k p) (span (at_ p k +ℤ pos 1) (at_ g k)) at >>= λ x. beside o m r p g k x.1

-- the tree for the choices p, and those beside it, of mode o
abbrev pub tree_due : ℕ → PlainMode → ℕ → List ℤ → List ℤ → Place → Read (Unit {0})
tree_due o m r p g at = tree_at o m r (length (decisions m) - length p) p at (next_item at.rest) >>= λ x. beside o m r p g (length p) x.1

-- where another node is due, the tree that is due next with those beside it; else they are complete
abbrev pub due_or_done : Bool → ℕ → PlainMode → ℕ → List ℤ → List ℤ → Place → Read (Unit {0})
due_or_done true o m r p g at = tree_due o m r p g at
due_or_done false o m r p g at = Ok (tt, at)

-- the choice at place k of p is among the alternatives after those before it, of which the greatest is that of g
abbrev pub IsLevel : PlainMode → ℕ → List ℤ → List ℤ → ℕ → Type 0
IsLevel m r p g k = (low : ℤ) × (alternatives m r (take k p) ≡ span low (at_ g k)) × (low ≤ℤ at_ p k) × (at_ p k ≤ℤ at_ g k)

-- what is kept of the prefix p with the greatest alternatives g: the constraints in force, and the loads of the rounds
pub record Stands (m : PlainMode) (r : ℕ) (p g : List ℤ) (held : List Diff) (loads : Tally) : Type 0 where
  pub same : length g ≡ length p
  pub few : length p ≤ length (decisions m)
  pub levels : (k : ℕ) → k < length p → IsLevel m r p g k
  pub list : held ≡ in_force m r p
  pub tally : loads ≡ tally_of m r p

-- the same of a walk
abbrev pub IsWalk : Walk → Type 0
IsWalk w = Stands w.problem.mode w.problem.rounds w.prefix.items w.highs.items w.constraints.items w.loads

-- the tree that is due for a walk in mode o, with those beside it
abbrev pub walk_due : ℕ → Walk → Place → Read (Unit {0})
walk_due o w at = tree_due o w.problem.mode w.problem.rounds w.prefix.items w.highs.items at

-- the trees that are due beside that of a walk
abbrev pub walk_beside : ℕ → Walk → Place → Read (Unit {0})
walk_beside o w at = beside o w.problem.mode w.problem.rounds w.prefix.items w.highs.items (length w.prefix.items) at

-- those for all alternatives after its prefix, and then those beside it
abbrev pub walk_children : ℕ → Walk → Place → Read (Unit {0})
walk_children o w at =
    trees_for o w.problem.mode w.problem.rounds (length (decisions w.problem.mode) - suc (length w.prefix.items)) w.prefix.items (alternatives w.problem.mode w.problem.rounds w.prefix.items) at >>= λ x. walk_beside o w x.1

-- a leaf with this line, where what it says is so, and then the trees beside it
abbrev pub walk_leaf : Bool → ℕ → ℕ → Walk → Place → Read (Unit {0})
walk_leaf holds line o w at = leaf_end holds line at >>= λ x. walk_beside o w x.1

-- a branch with this line, where a decision is left, and then the trees beside it
abbrev pub walk_branch : ℕ → ℕ → Walk → Place → Read (Unit {0})
walk_branch line o w at = if nat_lt (length w.prefix.items) (length (decisions w.problem.mode)) then walk_children o w at else Err (BadLeaf line)

-- the tree that is due for a walk with those beside it, where another node is due; else they are complete
abbrev pub walk_goes : Bool → ℕ → Walk → Place → Read (Unit {0})
walk_goes due o w at = due_or_done due o w.problem.mode w.problem.rounds w.prefix.items w.highs.items at
