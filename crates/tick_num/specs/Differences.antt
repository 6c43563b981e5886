-- Lists of bounds on differences of variables: their solutions, the least one, and cycles that exclude every one
use Rattle.std.specs.Prelude.{◌≡◌, ℕ, ◌<◌, ◌≤◌, ◌⊎◌, List, [], ◌∷◌, length, map, slice_index_or, All, ℤ, pos, ◌+ℤ◌, ◌-ℤ◌, ◌≤ℤ◌, ◌<ℤ◌}
use Rattle.tick_num.specs.declared.differences.Diff.{Diff}

-- x - y is at most c
abbrev pub diff : ℕ → ℕ → ℤ → Diff
diff x y c = record { x = x; y = y; c = c }

-- the values v, one per variable, meet the constraint
abbrev pub Meets : (ℕ → ℤ) → Diff → Type 0
Meets v d = (v d.x -ℤ v d.y) ≤ℤ d.c

-- v is a solution of the list
abbrev pub MeetsAll : (ℕ → ℤ) → List Diff → Type 0
MeetsAll v ds = All (Meets v) ds

-- v is a solution without negative values, and each such solution is at least v at every variable
pub record LeastValues (ds : List Diff) (v : ℕ → ℤ) : Type 0 where
  pub solves : MeetsAll v ds
  pub from_zero : (x : ℕ) → pos 0 ≤ℤ v x
  pub least : (w : ℕ → ℤ) → MeetsAll w ds → ((x : ℕ) → pos 0 ≤ℤ w x) → (x : ℕ) → v x ≤ℤ w x

abbrev pub sum_ℤ : List ℤ → ℤ
sum_ℤ [] = pos 0
sum_ℤ (c ∷ cs) = c +ℤ sum_ℤ cs

-- the y of each is the x of the next, and the y of the last is x
abbrev pub Closes : ℕ → List Diff → Type 0
Closes x [] = ⊥
Closes x (d ∷ []) = d.y ≡ x
Closes x (d ∷ e ∷ ds) = (d.y ≡ e.x) × Closes x (e ∷ ds)

-- one or more constraints that go round
abbrev pub IsCycle : List Diff → Type 0
IsCycle [] = ⊥
IsCycle (d ∷ ds) = Closes d.x (d ∷ ds)

-- the constraints of the list at these positions
abbrev pub named : List Diff → List ℕ → List Diff
named ds refs = map (λ i. slice_index_or ds i (diff 0 0 (pos 0))) refs

-- positions of the list that go round and whose bounds sum below 0
pub record NegativeCycle (ds : List Diff) (refs : List ℕ) : Type 0 where
  pub within : All (λ i. i < length ds) refs
  pub closed : IsCycle (named ds refs)
  pub negative : sum_ℤ (map (λ d. d.c) (named ds refs)) <ℤ pos 0

-- a list with a negative cycle has no solution
abbrev pub CyclesExclude : Type 0
CyclesExclude = (ds : List Diff) (refs : List ℕ) → NegativeCycle ds refs → (v : ℕ → ℤ) → MeetsAll v ds → ⊥

-- the variables of the constraints are below n
abbrev pub InRange : ℕ → List Diff → Type 0
InRange n ds = All (λ d. (d.x < n) × (d.y < n)) ds

-- a list over n variables has least values, or else a negative cycle of one to n constraints
abbrev pub LeastOrCycle : Type 0
LeastOrCycle = (n : ℕ) (ds : List Diff) → InRange n ds → ((v : ℕ → ℤ) × LeastValues ds v) ⊎ ((refs : List ℕ) × NegativeCycle ds refs × (1 ≤ length refs) × (length refs ≤ n))

-- a list has one family of least values at most
abbrev pub LeastUnique : Type 0
LeastUnique = (ds : List Diff) (v w : ℕ → ℤ) → LeastValues ds v → LeastValues ds w → (x : ℕ) → v x ≡ w x

-- values as they are listed by variable, and 0 past the end
abbrev pub listed : List ℤ → ℕ → ℤ
listed vs x = slice_index_or vs x (pos 0)
