-- Counts of visited prefixes, costs and spent budgets are each one number
use Rattle.std.proofs.Common.{◌≡◌, ℕ, zero, suc, ◌+◌, ◌<◌, ◌≤◌, List, [], ◌∷◌, ◌++◌, length, sym, ◌∙◌, ap, subst, arith, ◌⊎◌, inl, inr, ℤ}
use Rattle.sched_model.specs.PlainMode.{PlainMode, most_rounds}
use Rattle.sched_model.specs.ConstraintProblem.{alternatives, decisions}
use Rattle.sched_model.specs.SearchCost.{Leads, SumTo, Visits, LeadsAt, Visited, CostFrom, Cost, SpentFrom, SpentAt}

-- a property of counts holds of one at most
abbrev IsOne : (ℕ → Type 0) → Type 0
IsOne P = (v w : ℕ) → P v → P w → v ≡ w

sums_one : (L : ℤ → Type 0) (V : ℤ → ℕ → Type 0) → ((a : ℤ) → IsOne (V a)) → (bs : List ℤ) → IsOne (SumTo L V bs)
sums_one L V one [] s t p q = p ∙ sym q
sums_one L V one (a ∷ bs) s t (x, vx, p) (y, vy, q) = same (sums_one L V one bs) p q
  where
    same : IsOne (SumTo L V bs) → L a × (s ≡ x) ⊎ (¬ (L a)) × ((z : ℕ) × SumTo L V bs z × (s ≡ x + z)) → L a × (t ≡ y) ⊎ (¬ (L a)) × ((z : ℕ) × SumTo L V bs z × (t ≡ y + z)) → s ≡ t
    same rest (inl p) (inl q) = p.1 ∙ one a x y vx vy ∙ sym q.1
    same rest (inl p) (inr q) = absurd (q.0 p.0)
    same rest (inr p) (inl q) = absurd (p.0 q.0)
    same rest (inr p) (inr q) = omega (arith, p.1.2, q.1.2, one a x y vx vy, rest p.1.0 q.1.0 p.1.1 q.1.1)

visits_one : (m : PlainMode) (r n : ℕ) (p : List ℤ) → IsOne (Visits m r n p)
visits_one m r zero p v w a b = a ∙ sym b
visits_one m r (suc n) p v w (inl a) (inl b) = a.1 ∙ sym b.1
visits_one m r (suc n) p v w (inl a) (inr b) = absurd (a.0 b.0)
visits_one m r (suc n) p v w (inr a) (inl b) = absurd (b.0 a.0)
visits_one m r (suc n) p v w (inr a) (inr b) =
    let s = sums_one (λ c. Leads m r n (p ++ c ∷ [])) (λ c. Visits m r n (p ++ c ∷ [])) (λ c. visits_one m r n (p ++ c ∷ [])) (alternatives m r p) a.1.0 b.1.0 a.1.1 b.1.1 in
    a.1.2 ∙ ap suc s ∙ sym b.1.2

pub visited_one : (m : PlainMode) (r : ℕ) → IsOne (Visited m r)
visited_one m r = visits_one m r (length (decisions m)) []

costs_one : (m : PlainMode) (r n : ℕ) → IsOne (CostFrom m r n)
costs_one m r zero v w a b = a ∙ sym b
costs_one m r (suc n) v w (x, vx, p) (y, vy, q) = same (costs_one m (suc r) n) p q
  where
    same : IsOne (CostFrom m (suc r) n) → LeadsAt m r × (v ≡ x) ⊎ (¬ (LeadsAt m r)) × ((z : ℕ) × CostFrom m (suc r) n z × (v ≡ x + z)) → LeadsAt m r × (w ≡ y) ⊎ (¬ (LeadsAt m r)) × ((z : ℕ) × CostFrom m (suc r) n z × (w ≡ y + z)) → v ≡ w
    same rest (inl p) (inl q) = p.1 ∙ visited_one m r x y vx vy ∙ sym q.1
    same rest (inl p) (inr q) = absurd (q.0 p.0)
    same rest (inr p) (inl q) = absurd (p.0 q.0)
    same rest (inr p) (inr q) = omega (arith, p.1.2, q.1.2, visited_one m r x y vx vy, rest p.1.0 q.1.0 p.1.1 q.1.1)

pub cost_one : (m : PlainMode) → IsOne (Cost m)
cost_one m = costs_one m 1 (most_rounds m)

spent_one : (m : PlainMode) (q n budget spent : ℕ) → IsOne (SpentFrom m q n budget spent)
spent_one m q zero budget spent v w a b = absurd a
spent_one m q (suc n) budget spent v w (x, vx, a) (y, vy, b) = same (spent_one m (suc q) n budget (spent + y)) a b
  where
    e : x ≡ y
    e = visited_one m q x y vx vy

    same : IsOne (SpentFrom m (suc q) n budget (spent + y)) → (budget < spent + x) × (v ≡ q) ⊎ (spent + x ≤ budget) × (¬ (LeadsAt m q)) × SpentFrom m (suc q) n budget (spent + x) v →
        (budget < spent + y) × (w ≡ q) ⊎ (spent + y ≤ budget) × (¬ (LeadsAt m q)) × SpentFrom m (suc q) n budget (spent + y) w → v ≡ w
    same rest (inl a) (inl b) = a.1 ∙ sym b.1
    same rest (inl a) (inr b) = absurd (omega (arith, a.0, b.0, e))
    same rest (inr a) (inl b) = absurd (omega (arith, a.0, b.0, e))
    same rest (inr a) (inr b) = rest v w (subst (λ z. SpentFrom m (suc q) n budget (spent + z) v) e a.2) b.2

pub spent_at_one : (m : PlainMode) (budget : ℕ) → IsOne (SpentAt m budget)
spent_at_one m budget = spent_one m 1 (most_rounds m) budget 0
