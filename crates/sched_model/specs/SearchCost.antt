-- What the search for the fewest rounds costs: the number of prefixes that it visits, depth first, alternatives ascending
use Rattle.std.specs.Prelude.{◌≡◌, ℕ, zero, suc, ◌+◌, ◌<◌, ◌≤◌, ◌⊎◌, List, [], ◌∷◌, ◌++◌, length, Contains, ℤ}
use Rattle.sched_model.specs.PlainMode.{PlainMode, most_rounds}
use Rattle.sched_model.specs.ConstraintProblem.{alternatives, decisions}
use Rattle.sched_model.specs.OpenPrefix.{Open}

-- p is open, and is full or leads on by some alternative, where n decisions are left
abbrev pub Leads : PlainMode → ℕ → ℕ → List ℤ → Type 0
Leads m r zero p = Open m r p
Leads m r (suc n) p = Open m r p × (a : ℤ) × Contains (alternatives m r p) a × Leads m r n (p ++ a ∷ [])

-- s is the sum of the counts at the items, up to the first that leads, that one included
abbrev pub SumTo : (ℤ → Type 0) → (ℤ → ℕ → Type 0) → List ℤ → ℕ → Type 0
SumTo L V [] s = s ≡ 0
SumTo L V (a ∷ bs) s = (x : ℕ) × V a x × (L a × (s ≡ x) ⊎ (¬ (L a)) × ((y : ℕ) × SumTo L V bs y × (s ≡ x + y)))

-- v prefixes are visited from p on, where n decisions are left: p itself and, where it is open and not full, those of its alternatives in turn
abbrev pub Visits : PlainMode → ℕ → ℕ → List ℤ → ℕ → Type 0
Visits m r zero p v = v ≡ 1
Visits m r (suc n) p v =
    (¬ (Open m r p)) × (v ≡ 1)
    ⊎ Open m r p × ((s : ℕ) × SumTo (λ a. Leads m r n (p ++ a ∷ [])) (λ a. Visits m r n (p ++ a ∷ [])) (alternatives m r p) s × (v ≡ suc s))

-- some full list is open for r rounds
abbrev pub LeadsAt : PlainMode → ℕ → Type 0
LeadsAt m r = Leads m r (length (decisions m)) []

-- v prefixes are visited for r rounds
abbrev pub Visited : PlainMode → ℕ → ℕ → Type 0
Visited m r v = Visits m r (length (decisions m)) [] v

-- v prefixes are visited for r rounds and the numbers after it, n in all, up to the first that leads, that one included
abbrev pub CostFrom : PlainMode → ℕ → ℕ → ℕ → Type 0
CostFrom m r zero v = v ≡ 0
CostFrom m r (suc n) v = (x : ℕ) × Visited m r x × (LeadsAt m r × (v ≡ x) ⊎ (¬ (LeadsAt m r)) × ((y : ℕ) × CostFrom m (suc r) n y × (v ≡ x + y)))

-- the search of the mode visits v prefixes in all
abbrev pub Cost : PlainMode → ℕ → Type 0
Cost m v = CostFrom m 1 (most_rounds m) v

-- where spent prefixes are visited before, r is the first number from q on, of n, at which there are more than the budget
abbrev pub SpentFrom : PlainMode → ℕ → ℕ → ℕ → ℕ → ℕ → Type 0
SpentFrom m q zero budget spent r = ⊥
SpentFrom m q (suc n) budget spent r = (x : ℕ) × Visited m q x ×
    ((budget < spent + x) × (r ≡ q) ⊎ (spent + x ≤ budget) × (¬ (LeadsAt m q)) × SpentFrom m (suc q) n budget (spent + x) r)

-- r is the number of rounds at which the search exceeds the budget
abbrev pub SpentAt : PlainMode → ℕ → ℕ → Type 0
SpentAt m budget r = SpentFrom m 1 (most_rounds m) budget 0 r
