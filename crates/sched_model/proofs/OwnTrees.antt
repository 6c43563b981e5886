-- A number of rounds has an open full list or an own tree, and not both. An own tree has a node for each visited prefix.
use Rattle.std.proofs.Common.{◌≡◌, ℕ, zero, suc, ◌+◌, ◌-◌, ◌*◌, ◌<◌, ◌≤◌, List, [], ◌∷◌, ◌++◌, length, get_or, take, Contains, refl, sym, ap, subst, arith, ◌⊎◌, inl, inr, ⊎_elim, ℤ, pos, append_assoc, length-append}
use Rattle.std.proofs.lemmas.Bool.{cases_lt}
use Rattle.std.proofs.lemmas.List.{take_at, get_or_at, take-append-le, get_or_append_left}
use Rattle.tick_num.specs.Differences.{LeastValues, NegativeCycle}
use Rattle.tick_num.proofs.Layers as layers
use Rattle.tick_num.proofs.Cycles.{cycles_exclude}
use Rattle.sched_model.specs.PlainMode.{PlainMode, instances}
use Rattle.sched_model.specs.ConstraintProblem.{vars, alternatives, decisions, load, in_force}
use Rattle.sched_model.specs.OpenPrefix.{Open, Chosen, FullOpen}
use Rattle.sched_model.specs.SearchCost.{Leads, SumTo, Visits, LeadsAt}
use Rattle.sched_model.specs.RefutationTree.{Node, branch, short, full, cycle, EachOf, ValidFrom, Roomy, OwnFrom, IsOwnTree}
use Rattle.sched_model.specs.ValidMode.{IsValid}
use Rattle.sched_model.proofs.Fronts.{open_front}
use Rattle.sched_model.proofs.Refutations.{each_has, own_valid}
use Rattle.sched_model.proofs.Variables.{in_range}

-- ---- what leads on, leads to a full open list
chosen_more : (m : PlainMode) (r : ℕ) (p : List ℤ) (a : ℤ) → Chosen m r p → Contains (alternatives m r p) a → Chosen m r (p ++ a ∷ [])
chosen_more m r p a ch c k l =
    ⊎_elim
    (λ (less : k < length p).
    let t = take-append-le k p (a ∷ []) (omega (arith, less)) in
    let g = get_or_append_left p (a ∷ []) (pos 0) k less in
    subst (λ (q : List ℤ). Contains (alternatives m r q) (get_or (p ++ a ∷ []) k (pos 0))) (sym t) (subst (λ (b : ℤ). Contains (alternatives m r (take k p)) b) (sym g) (ch k less)))
    (λ (le : length p ≤ k).
    let e : length p ≡ k = omega (arith, le, l, length-append {A = ℤ} p (a ∷ [])) in
    let t = take_at p (a ∷ []) k e in
    let g = get_or_at p a [] (pos 0) k e in
    subst (λ (q : List ℤ). Contains (alternatives m r q) (get_or (p ++ a ∷ []) k (pos 0))) (sym t) (subst (λ (b : ℤ). Contains (alternatives m r p) b) (sym g) c))
    (cases_lt k (length p))

pub leads_to_list : (m : PlainMode) (r n : ℕ) (p : List ℤ) → length p + n ≡ length (decisions m) → Chosen m r p → Leads m r n p → (q : List ℤ) × FullOpen m r q
leads_to_list m r zero p e ch o = (p, record { full = omega (arith, e); chosen = ch; is_open = o })
leads_to_list m r (suc n) p e ch (o, a, c, more) = leads_to_list m r n (p ++ a ∷ []) (omega (arith, e, length-append {A = ℤ} p (a ∷ []))) (chosen_more m r p a ch c) more

pub list_leads : (m : PlainMode) (r n : ℕ) (p u : List ℤ) → length p + n ≡ length (decisions m) → FullOpen m r (p ++ u) → Leads m r n p
list_leads m r zero p u e f = open_front m r p u f.is_open
list_leads m r (suc n) p [] e f = absurd (omega (arith, e, f.full, length-append {A = ℤ} p []))
list_leads m r (suc n) p (a ∷ u) e f =
    let c = f.chosen (length p) (omega (arith, length-append {A = ℤ} p (a ∷ u))) in
    let t = take_at p (a ∷ u) (length p) refl in
    let g = get_or_at p a u (pos 0) (length p) refl in
    let among : Contains (alternatives m r p) a =
    subst (λ (b : ℤ). Contains (alternatives m r p) b) g (subst (λ (q : List ℤ). Contains (alternatives m r q) (get_or (p ++ a ∷ u) (length p) (pos 0))) t c) in (
      open_front m r p (a ∷ u) f.is_open,
      a,
      among,
      list_leads m r n (p ++ a ∷ []) u (omega (arith, e, length-append {A = ℤ} p (a ∷ []))) (subst (FullOpen m r) (sym (append_assoc p (a ∷ []) u)) f),
    )

-- ---- a valid tree and what leads exclude each other
leads_open : (m : PlainMode) (r n : ℕ) (p : List ℤ) → Leads m r n p → Open m r p
leads_open m r zero p o = o
leads_open m r (suc n) p l = l.0

-- a leaf is not open
pub short_closed : (m : PlainMode) (r : ℕ) (p : List ℤ) → r * m.slots < instances m → Open m r p → ⊥
short_closed m r p h o = omega (arith, h, o.slots)

pub full_closed : (m : PlainMode) (r j : ℕ) (p : List ℤ) → 1 ≤ j → j ≤ r → m.slots < load m r (j - 1) p → Open m r p → ⊥
full_closed m r j p a b h o = omega (arith, h, o.loads (j - 1) (omega (arith, a, b)))

pub cycle_closed : (m : PlainMode) (r : ℕ) (p : List ℤ) (refs : List ℕ) → NegativeCycle (in_force m r p) refs → Open m r p → ⊥
cycle_closed m r p refs h o = cycles_exclude (in_force m r p) refs h o.values.0 o.values.1

pub tree_excludes : (m : PlainMode) (r n : ℕ) (p : List ℤ) (nodes rest : List Node) → ValidFrom m r n p nodes rest → Leads m r n p → ⊥
tree_excludes m r n p [] rest t l = absurd t
tree_excludes m r zero p (branch ∷ nodes) rest t l = absurd t
tree_excludes m r (suc n) p (branch ∷ nodes) rest t (o, a, c, more) =
    let d = each_has (λ b. ValidFrom m r n (p ++ b ∷ [])) (alternatives m r p) nodes rest t a c.0 c.1 c.2 in
    tree_excludes m r n (p ++ a ∷ []) d.0 d.1 d.2 more
tree_excludes m r n p (short ∷ nodes) rest t l = short_closed m r p t.0 (leads_open m r n p l)
tree_excludes m r n p (full j ∷ nodes) rest t l = full_closed m r j p t.0 t.1 t.2 (leads_open m r n p l)
tree_excludes m r n p (cycle refs ∷ nodes) rest t l = cycle_closed m r p refs t.0 (leads_open m r n p l)

-- ---- a node for each visited prefix
-- a leaf is one visited prefix
leaf_visit : (m : PlainMode) (r n : ℕ) (p : List ℤ) → (Open m r p → ⊥) → Visits m r n p 1
leaf_visit m r zero p closed = refl
leaf_visit m r (suc n) p closed = inl (closed, refl)

each_count : (L : ℤ → Type 0) (V : ℤ → ℕ → Type 0) (T : ℤ → List Node → List Node → Type 0) → ((a : ℤ) (x y : List Node) → T a x y → (v : ℕ) × V a v × (length x ≡ v + length y)) → ((a : ℤ) (x y : List Node) → T a x y → ¬ (L a)) →
    (bs : List ℤ) (nodes rest : List Node) → EachOf T bs nodes rest → (s : ℕ) × SumTo L V bs s × (length nodes ≡ s + length rest)
each_count L V T f g [] nodes rest e = (0, refl, omega (arith, ap (λ (l : List Node). length l) e))
each_count L V T f g (b ∷ bs) nodes rest (mid, t, e) =
    let x = f b nodes mid t in
    let y = each_count L V T f g bs mid rest e in
    (x.0 + y.0, (x.0, x.1, inr (g b nodes mid t, (y.0, y.1, refl))), omega (arith, x.2, y.2))

pub tree_count : (m : PlainMode) (r n : ℕ) (p : List ℤ) (nodes rest : List Node) → OwnFrom m r n p nodes rest → (v : ℕ) × Visits m r n p v × (length nodes ≡ v + length rest)
tree_count m r n p [] rest t = absurd t
tree_count m r zero p (branch ∷ nodes) rest t = absurd t
tree_count m r (suc n) p (branch ∷ nodes) rest t =
    let s = each_count (λ a. Leads m r n (p ++ a ∷ [])) (λ a. Visits m r n (p ++ a ∷ [])) (λ a. OwnFrom m r n (p ++ a ∷ [])) (λ a x y. tree_count m r n (p ++ a ∷ []) x y)
    (λ a x y w. tree_excludes m r n (p ++ a ∷ []) x y (own_valid m r n (p ++ a ∷ []) x y w)) (alternatives m r p) nodes rest t.1 in
    (suc s.0, inr (t.0, (s.0, s.1, refl)), omega (arith, s.2))
tree_count m r n p (short ∷ nodes) rest t = (1, leaf_visit m r n p (short_closed m r p t.0), omega (arith, ap (λ (l : List Node). length l) t.1))
tree_count m r n p (full j ∷ nodes) rest t = (1, leaf_visit m r n p (full_closed m r j p t.1 t.2 t.4), omega (arith, ap (λ (l : List Node). length l) t.5))
tree_count m r n p (cycle refs ∷ nodes) rest t = (1, leaf_visit m r n p (cycle_closed m r p refs t.3), omega (arith, ap (λ (l : List Node). length l) t.4))

-- ---- one or the other
-- the first of n rounds that is chosen too often
pub find_full : (m : PlainMode) (r : ℕ) (p : List ℤ) (n : ℕ) → Roomy m r n p ⊎ ((j : ℕ) × (j < n) × Roomy m r j p × (m.slots < load m r j p))
find_full m r p zero = inl (λ j l. absurd (omega (arith, l)))
find_full m r p (suc n) =
    ⊎_elim
    (λ (roomy : Roomy m r n p). ⊎_elim
    (λ (over : m.slots < load m r n p). inr (n, omega arith, roomy, over))
    (λ (fits : load m r n p ≤ m.slots). inl (λ j l. ⊎_elim (λ (less : j < n). roomy j less) (λ (le : n ≤ j). subst (λ x. load m r x p ≤ m.slots) (let e : n ≡ j = omega (arith, le, l) in e) fits) (cases_lt j n)))
    (cases_lt m.slots (load m r n p)))
    (λ (w : (j : ℕ) × (j < n) × Roomy m r j p × (m.slots < load m r j p)). inr (w.0, omega (arith, w.1), w.2, w.3))
    (find_full m r p n)

-- a tree that goes on to any rest
abbrev Grows : (List Node → List Node → Type 0) → Type 0
Grows T = (rest : List Node) → (nodes : List Node) × T nodes rest

each_or : (T : ℤ → List Node → List Node → Type 0) (L : ℤ → Type 0) → ((a : ℤ) → Grows (T a) ⊎ L a) → (bs : List ℤ) → Grows (EachOf T bs) ⊎ ((a : ℤ) × Contains bs a × L a)
each_or T L f [] = inl (λ rest. (rest, refl))
each_or T L f (b ∷ bs) =
    ⊎_elim
    (λ (t : Grows (T b)). ⊎_elim
    (λ (ts : Grows (EachOf T bs)). inl (λ rest. let x = ts rest in let y = t x.0 in (y.0, (x.0, y.1, x.1))))
    (λ (w : (a : ℤ) × Contains bs a × L a). inr (w.0, (suc w.1.0, omega (arith, w.1.1), w.1.2), w.2))
    (each_or T L f bs))
    (λ (l : L b). inr (b, (0, omega arith, refl), l))
    (f b)

module _ (m : PlainMode) (r : ℕ) (ok : IsValid m) (some : 1 ≤ r) where
  leaf_or_open : (n : ℕ) (p : List ℤ) → Grows (OwnFrom m r n p) ⊎ Open m r p
  leaf_or_open n p =
      ⊎_elim
      (λ (few : r * m.slots < instances m). inl (λ rest. (short ∷ rest, (few, refl))))
      (λ (enough : instances m ≤ r * m.slots). ⊎_elim
      (λ (roomy : Roomy m r r p). ⊎_elim
      (λ (w : (v : ℕ → ℤ) × LeastValues (in_force m r p) v). inr (record { slots = enough; loads = roomy; values = (w.0, w.1.solves) }))
      (λ (c : (refs : List ℕ) × NegativeCycle (in_force m r p) refs × (1 ≤ length refs) × (length refs ≤ vars m r)). inl (λ rest. (cycle c.0 ∷ rest, (enough, roomy, c.3, c.1, refl))))
      (layers.least_or_cycle (vars m r) (in_force m r p) (in_range m r ok some p)))
      (λ (w : (j : ℕ) × (j < r) × Roomy m r j p × (m.slots < load m r j p)).
      let e : w.0 ≡ suc w.0 - 1 = omega arith in
      inl (λ rest. (full (suc w.0) ∷ rest, (enough, omega arith, omega (arith, w.1), subst (λ x. Roomy m r x p) e w.2, subst (λ x. m.slots < load m r x p) e w.3, refl))))
      (find_full m r p r))
      (cases_lt (r * m.slots) (instances m))

  pub tree_or_leads : (n : ℕ) (p : List ℤ) → Grows (OwnFrom m r n p) ⊎ Leads m r n p
  tree_or_leads zero p = leaf_or_open zero p
  tree_or_leads (suc n) p =
      ⊎_elim
      (λ (t : Grows (OwnFrom m r (suc n) p)). inl t)
      (λ (o : Open m r p). ⊎_elim
      (λ (ts : Grows (EachOf (λ a. OwnFrom m r n (p ++ a ∷ [])) (alternatives m r p))). inl (λ rest. let x = ts rest in (branch ∷ x.0, (o, x.1))))
      (λ (w : (a : ℤ) × Contains (alternatives m r p) a × Leads m r n (p ++ a ∷ [])). inr (o, w.0, w.1, w.2))
      (each_or (λ a. OwnFrom m r n (p ++ a ∷ [])) (λ a. Leads m r n (p ++ a ∷ [])) (λ a. tree_or_leads n (p ++ a ∷ [])) (alternatives m r p)))
      (leaf_or_open (suc n) p)

  pub own_tree_or_leads : ((nodes : List Node) × IsOwnTree m r nodes) ⊎ LeadsAt m r
  own_tree_or_leads =
      ⊎_elim (λ (t : Grows (OwnFrom m r (length (decisions m)) [])). inl (t [])) (λ (l : LeadsAt m r). inr l) (tree_or_leads (length (decisions m)) [])
