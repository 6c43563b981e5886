-- The constraints in force as a store has them
use Rattle.std.specs.Prelude.{◌≡◌, ℕ, ◌-◌, List, [], ◌∷◌, ◌++◌, length, take, slice_index_or, ℤ, pos}
use Rattle.tick_num.specs.declared.differences.Diff.{Diff}
use Rattle.tick_num.specs.Differences.{MeetsAll}
use Rattle.diff_store.specs.declared.store.Pushed.{Pushed}
use Rattle.diff_store.specs.declared.store.Pushed.TheVariants.{Solvable, Closed}
use Rattle.sched_model.specs.PlainMode.{PlainMode}
use Rattle.sched_model.specs.ConstraintProblem.{base, decisions, chosen, order, in_force}

-- the list has a solution
abbrev pub HasSolution : List Diff → Type 0
HasSolution ds = (v : ℕ → ℤ) × MeetsAll v ds

-- the list has none
abbrev pub HasNone : List Diff → Type 0
HasNone ds = (v : ℕ → ℤ) → MeetsAll v ds → ⊥

-- the constraints in force before the last choice of the prefix, and none before the empty one
abbrev pub before_last : PlainMode → ℕ → List ℤ → List Diff
before_last m r [] = []
before_last m r (v ∷ p) = in_force m r (take (length (v ∷ p) - 1) (v ∷ p))

-- those that come with it: the ones that always hold come with the empty prefix
abbrev pub with_last : PlainMode → ℕ → List ℤ → List Diff
with_last m r [] = base m r
with_last m r (v ∷ p) = chosen m r (slice_index_or (decisions m) (length (v ∷ p) - 1) (order 0 0)) (slice_index_or (v ∷ p) (length (v ∷ p) - 1) (pos 0))

-- the list begins with the constraints in force before the last choice of the prefix
abbrev pub Fronts : PlainMode → ℕ → List ℤ → List Diff → Type 0
Fronts m r prefix list = (more : List Diff) × (list ≡ before_last m r prefix ++ more)

-- all were pushed and there is a solution, or there is none once some of them were pushed
abbrev pub Pushes : List Diff → List Diff → List Diff → Pushed → Type 0
Pushes old added new Solvable = (new ≡ old ++ added) × HasSolution new
Pushes old added new Closed = (k : ℕ) × (new ≡ old ++ take k added) × HasNone new
