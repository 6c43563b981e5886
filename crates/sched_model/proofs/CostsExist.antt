-- Counts of visited prefixes and costs exist, and a budget is spent exactly where it is below the cost
use Rattle.std.proofs.Common.{◌≡◌, ℕ, zero, suc, ◌+◌, ◌-◌, ◌*◌, ◌<◌, ◌≤◌, List, [], ◌∷◌, ◌++◌, length, refl, subst, arith, ◌⊎◌, inl, inr, ⊎_elim, ℤ}
use Rattle.std.proofs.lemmas.Bool.{cases_lt}
use Rattle.tick_num.specs.Differences.{LeastValues, NegativeCycle}
use Rattle.tick_num.proofs.Layers as layers
use Rattle.sched_model.specs.PlainMode.{PlainMode, instances, most_rounds}
use Rattle.sched_model.specs.ConstraintProblem.{vars, alternatives, decisions, load, in_force}
use Rattle.sched_model.specs.OpenPrefix.{Open}
use Rattle.sched_model.specs.SearchCost.{Leads, SumTo, Visits, LeadsAt, Visited, CostFrom, Cost, SpentFrom, SpentAt}
use Rattle.sched_model.specs.RefutationTree.{Node, Roomy, OwnFrom}
use Rattle.sched_model.specs.ValidMode.{IsValid}
use Rattle.sched_model.proofs.Refutations.{own_valid}
use Rattle.sched_model.proofs.Variables.{in_range}
use Rattle.sched_model.proofs.OwnTrees.{tree_excludes, short_closed, full_closed, cycle_closed, find_full, tree_or_leads}
use Rattle.sched_model.proofs.Costs.{visited_one}

-- each is counted, and each leads or does not
sum_exists : (L : ℤ → Type 0) (V : ℤ → ℕ → Type 0) → ((a : ℤ) → L a ⊎ (L a → ⊥)) → ((a : ℤ) → (v : ℕ) × V a v) → (bs : List ℤ) → (s : ℕ) × SumTo L V bs s
sum_exists L V leads count [] = (0, refl)
sum_exists L V leads count (b ∷ bs) =
    let x = count b in
    let y = sum_exists L V leads count bs in
    ⊎_elim
    (λ (l : L b). (x.0, (x.0, x.1, inl (l, refl))))
    (λ (no : L b → ⊥). (x.0 + y.0, (x.0, x.1, inr (no, (y.0, y.1, refl)))))
    (leads b)

module _ (m : PlainMode) (ok : IsValid m) where
  open_or_not : (r : ℕ) → 1 ≤ r → (p : List ℤ) → Open m r p ⊎ (Open m r p → ⊥)
  open_or_not r some p =
      ⊎_elim
      (λ (few : r * m.slots < instances m). inr (short_closed m r p few))
      (λ (enough : instances m ≤ r * m.slots). ⊎_elim
      (λ (roomy : Roomy m r r p). ⊎_elim
      (λ (w : (v : ℕ → ℤ) × LeastValues (in_force m r p) v). inl (record { slots = enough; loads = roomy; values = (w.0, w.1.solves) }))
      (λ (c : (refs : List ℕ) × NegativeCycle (in_force m r p) refs × (1 ≤ length refs) × (length refs ≤ vars m r)). inr (cycle_closed m r p c.0 c.1))
      (layers.least_or_cycle (vars m r) (in_force m r p) (in_range m r ok some p)))
      (λ (w : (j : ℕ) × (j < r) × Roomy m r j p × (m.slots < load m r j p)).
      let e : w.0 ≡ suc w.0 - 1 = omega arith in
      inr (full_closed m r (suc w.0) p (omega arith) (omega (arith, w.1)) (subst (λ x. m.slots < load m r x p) e w.3)))
      (find_full m r p r))
      (cases_lt (r * m.slots) (instances m))

  leads_or_not : (r : ℕ) → 1 ≤ r → (n : ℕ) (p : List ℤ) → Leads m r n p ⊎ (Leads m r n p → ⊥)
  leads_or_not r some n p =
      ⊎_elim
      (λ (t : (rest : List Node) → (nodes : List Node) × OwnFrom m r n p nodes rest). inr (tree_excludes m r n p (t []).0 [] (own_valid m r n p (t []).0 [] (t []).1)))
      (λ (l : Leads m r n p). inl l)
      (tree_or_leads m r ok some n p)

  visits_exist : (r : ℕ) → 1 ≤ r → (n : ℕ) (p : List ℤ) → (v : ℕ) × Visits m r n p v
  visits_exist r some zero p = (1, refl)
  visits_exist r some (suc n) p =
      ⊎_elim
      (λ (o : Open m r p).
      let s = sum_exists (λ a. Leads m r n (p ++ a ∷ [])) (λ a. Visits m r n (p ++ a ∷ [])) (λ a. leads_or_not r some n (p ++ a ∷ [])) (λ a. visits_exist r some n (p ++ a ∷ [])) (alternatives m r p) in
      (suc s.0, inr (o, (s.0, s.1, refl))))
      (λ (closed : Open m r p → ⊥). (1, inl (closed, refl)))
      (open_or_not r some p)

  pub visited_exists : (r : ℕ) → 1 ≤ r → (v : ℕ) × Visited m r v
  visited_exists r some = visits_exist r some (length (decisions m)) []

  pub leads_at_or_not : (r : ℕ) → 1 ≤ r → LeadsAt m r ⊎ (LeadsAt m r → ⊥)
  leads_at_or_not r some = leads_or_not r some (length (decisions m)) []

  costs_exist : (r n : ℕ) → 1 ≤ r → (v : ℕ) × CostFrom m r n v
  costs_exist r zero some = (0, refl)
  costs_exist r (suc n) some =
      let x = visited_exists r some in
      let y = costs_exist (suc r) n (omega arith) in
      ⊎_elim
      (λ (l : LeadsAt m r). (x.0, (x.0, x.1, inl (l, refl))))
      (λ (no : LeadsAt m r → ⊥). (x.0 + y.0, (x.0, x.1, inr (no, (y.0, y.1, refl)))))
      (leads_at_or_not r some)

  pub cost_exists : (v : ℕ) × Cost m v
  cost_exists = costs_exist 1 (most_rounds m) (omega arith)

  -- ---- where the cost is above the budget, it is spent at some number of rounds, and only there
  spent_from : (q n budget spent v : ℕ) → CostFrom m q n v → spent ≤ budget → budget < spent + v → (r : ℕ) × SpentFrom m q n budget spent r
  spent_from q zero budget spent v c low over = absurd (omega (arith, c, low, over))
  spent_from q (suc n) budget spent v (x, vx, c) low over =
      ⊎_elim
      (λ (here : budget < spent + x). (q, (x, vx, inl (here, refl))))
      (λ (fits : spent + x ≤ budget). ⊎_elim
      (λ (l : LeadsAt m q × (v ≡ x)). absurd (omega (arith, over, fits, l.1)))
      (λ (w : (LeadsAt m q → ⊥) × ((y : ℕ) × CostFrom m (suc q) n y × (v ≡ x + y))).
      let r = spent_from (suc q) n budget (spent + x) w.1.0 w.1.1 fits (omega (arith, over, w.1.2)) in
      (r.0, (x, vx, inr (fits, w.0, r.1))))
      c)
      (cases_lt budget (spent + x))

  spent_over : (q n budget spent r v : ℕ) → SpentFrom m q n budget spent r → CostFrom m q n v → budget < spent + v
  spent_over q zero budget spent r v s c = absurd s
  spent_over q (suc n) budget spent r v (x, vx, s) (y, vy, c) =
      let e = visited_one m q x y vx vy in
      ⊎_elim
      (λ (here : (budget < spent + x) × (r ≡ q)). ⊎_elim
      (λ (l : LeadsAt m q × (v ≡ y)). omega (arith, here.0, e, l.1))
      (λ (w : (LeadsAt m q → ⊥) × ((z : ℕ) × CostFrom m (suc q) n z × (v ≡ y + z))). omega (arith, here.0, e, w.1.2))
      c)
      (λ (later : (spent + x ≤ budget) × (LeadsAt m q → ⊥) × SpentFrom m (suc q) n budget (spent + x) r). ⊎_elim
      (λ (l : LeadsAt m q × (v ≡ y)). absurd (later.1 l.0))
      (λ (w : (LeadsAt m q → ⊥) × ((z : ℕ) × CostFrom m (suc q) n z × (v ≡ y + z))). omega (arith, e, w.1.2, spent_over (suc q) n budget (spent + x) r w.1.0 later.2 w.1.1))
      c)
      s

  pub spent_where : (budget v : ℕ) → Cost m v → budget < v → (r : ℕ) × SpentAt m budget r
  spent_where budget v c over = spent_from 1 (most_rounds m) budget 0 v c (omega arith) (omega (arith, over))

  pub spent_only : (budget r v : ℕ) → SpentAt m budget r → Cost m v → budget < v
  spent_only budget r v s c = omega (arith, spent_over 1 (most_rounds m) budget 0 r v s c)
