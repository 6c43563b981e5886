-- Tasks that no walk leads back to have ranks that rise along edges: the length of the longest walk to each
use Rattle.std.proofs.Common.{◌≡◌, ℕ, zero, suc, ◌+◌, ◌-◌, ◌<◌, ◌≤◌, Bool, true, false, cond, ◌&&◌, length, refl, sym, ◌∙◌, ap, subst, arith, ⊎_elim}
use Rattle.std.specs.List.{list_any}
use Rattle.std.proofs.lemmas.Bool.{cases_lt, cases_Bool, cond-true, cond-false, and_parts, and_from, both_ways}
use Rattle.tick_num.proofs.Pigeons.{two_alike}
use Rattle.sched_model.specs.Numbers.{below}
use Rattle.sched_model.specs.PlainMode.{PlainMode}
use Rattle.sched_model.specs.TaskGraph.{edge, IsEdge, Walk}
use Rattle.sched_model.proofs.Tests.{passed_below, passes_below}

-- a walk of n edges leads to b
leads_to : PlainMode → ℕ → ℕ → Bool
leads_to m zero b = true
leads_to m (suc n) b = list_any (λ a. edge m a b && leads_to m n a) (below (length m.tasks))

-- the greatest number up to n of a walk's edges that lead to b
longest : PlainMode → ℕ → ℕ → ℕ
longest m zero b = 0
longest m (suc n) b = cond (leads_to m (suc n) b) (suc n) (longest m n b)

longest_most : (m : PlainMode) (n b : ℕ) → longest m n b ≤ n
unfolding longest
longest_most m zero b = omega arith
longest_most m (suc n) b =
    ⊎_elim
    (λ (yes : leads_to m (suc n) b ≡ true). omega (arith, cond-true (leads_to m (suc n) b) (suc n) (longest m n b) yes))
    (λ (no : leads_to m (suc n) b ≡ false). omega (arith, cond-false (leads_to m (suc n) b) (suc n) (longest m n b) no, longest_most m n b))
    (cases_Bool (leads_to m (suc n) b))

longest_leads : (m : PlainMode) (n b : ℕ) → leads_to m (longest m n b) b ≡ true
unfolding longest leads_to
longest_leads m zero b = refl
longest_leads m (suc n) b =
    ⊎_elim
    (λ (yes : leads_to m (suc n) b ≡ true). ap (λ k. leads_to m k b) (cond-true (leads_to m (suc n) b) (suc n) (longest m n b) yes) ∙ yes)
    (λ (no : leads_to m (suc n) b ≡ false). ap (λ k. leads_to m k b) (cond-false (leads_to m (suc n) b) (suc n) (longest m n b) no) ∙ longest_leads m n b)
    (cases_Bool (leads_to m (suc n) b))

longest_least : (m : PlainMode) (n k b : ℕ) → k ≤ n → leads_to m k b ≡ true → k ≤ longest m n b
unfolding longest
longest_least m zero k b l e = omega (arith, l)
longest_least m (suc n) k b l e =
    ⊎_elim
    (λ (yes : leads_to m (suc n) b ≡ true). omega (arith, l, cond-true (leads_to m (suc n) b) (suc n) (longest m n b) yes))
    (λ (no : leads_to m (suc n) b ≡ false). ⊎_elim
    (λ (less : k < suc n). omega (arith, cond-false (leads_to m (suc n) b) (suc n) (longest m n b) no, longest_least m n k b (omega (arith, less)) e))
    (λ (ge : suc n ≤ k). absurd (both_ways (leads_to m (suc n) b) no (subst (λ x. leads_to m x b ≡ true) (let s : k ≡ suc n = omega (arith, ge, l) in s) e)))
    (cases_lt k (suc n)))
    (cases_Bool (leads_to m (suc n) b))

-- the tasks of such a walk, the last one first
put : ℕ → (ℕ → ℕ) → ℕ → ℕ
put b f zero = b
put b f (suc i) = f i

traced : (m : PlainMode) (n b : ℕ) → leads_to m n b ≡ true → (f : ℕ → ℕ) × (f 0 ≡ b) × ((i : ℕ) → i < n → IsEdge m (f (suc i)) (f i))
unfolding leads_to put
traced m zero b e = (λ i. b, refl, λ i l. absurd (omega (arith, l)))
traced m (suc n) b e =
    let c = passed_below (λ a. edge m a b && leads_to m n a) (length m.tasks) e in
    let w = and_parts (edge m c.0 b) (leads_to m n c.0) c.2 in
    let r = traced m n c.0 w.1 in
    (put b r.0, refl, steps b c.0 n r.0 r.1 w.0 r.2)
  where
    steps : (b c n : ℕ) (f : ℕ → ℕ) → f 0 ≡ c → IsEdge m c b → ((i : ℕ) → i < n → IsEdge m (f (suc i)) (f i)) → (i : ℕ) → i < suc n → IsEdge m (f i) (put b f i)
    steps b c n f e h all zero l = subst (λ x. IsEdge m x b) (sym e) h
    steps b c n f e h all (suc i) l = all i (omega (arith, l))

walk_back : (m : PlainMode) (f : ℕ → ℕ) (n : ℕ) → ((i : ℕ) → i < n → IsEdge m (f (suc i)) (f i)) → (d i : ℕ) → i + d ≤ n → Walk m (f (i + d)) (f i) d
walk_back m f n h zero i l = ap f (let s : i + 0 ≡ i = omega arith in s)
walk_back m f n h (suc d) i l = (f (i + d), subst (λ x. IsEdge m (f x) (f (i + d))) (let s : suc (i + d) ≡ i + suc d = omega arith in s) (h (i + d) (omega (arith, l))), walk_back m f n h d i (omega (arith, l)))

module _ (m : PlainMode) (inside : (a b : ℕ) → IsEdge m a b → (a < length m.tasks) × (b < length m.tasks)) (acyclic : (a n : ℕ) → Walk m a a (suc n) → ⊥) where
  -- no walk has as many edges as there are tasks
  none_long : (b : ℕ) → b < length m.tasks → leads_to m (length m.tasks) b ≡ true → ⊥
  none_long b l e =
      let n = length m.tasks in
      let t = traced m n b e in
      let f = t.0 in
      let twice = two_alike n f (low f t.1 t.2) in
      let i = twice.0 in
      let d = twice.1 - i - 1 in
      let up : i + suc d ≡ twice.1 = omega (arith, twice.2) in
      let w = walk_back m f n t.2 (suc d) i (omega (arith, up, twice.3)) in
      acyclic (f i) d (subst (λ x. Walk m x (f i) (suc d)) (ap f up ∙ sym twice.4) w)
    where
      low : (f : ℕ → ℕ) → f 0 ≡ b → ((i : ℕ) → i < length m.tasks → IsEdge m (f (suc i)) (f i)) → (i : ℕ) → i < suc (length m.tasks) → f i < length m.tasks
      low f e0 h zero li = subst (λ x. x < length m.tasks) (sym e0) l
      low f e0 h (suc i) li = (inside (f (suc i)) (f i) (h i (omega (arith, li)))).0

  pub rank : ℕ → ℕ
  rank a = longest m (length m.tasks - 1) a

  pub rank_low : (a : ℕ) → a < length m.tasks → rank a < length m.tasks
  unfolding rank
  rank_low a l = omega (arith, l, longest_most m (length m.tasks - 1) a)

  pub rank_rises : (a b : ℕ) → IsEdge m a b → rank a < rank b
  unfolding rank leads_to
  rank_rises a b e =
      let n = length m.tasks in
      let l = inside a b e in
      let k = longest m (n - 1) a in
      let long : leads_to m (suc k) b ≡ true = passes_below (λ c. edge m c b && leads_to m k c) n a l.0 (and_from (edge m a b) (leads_to m k a) e (longest_leads m (n - 1) a)) in
      ⊎_elim
      (λ (fits : suc k < n). omega (arith, longest_least m (n - 1) (suc k) b (omega (arith, fits)) long))
      (λ (over : n ≤ suc k). absurd (none_long b l.1 (subst (λ x. leads_to m x b ≡ true) (let s : suc k ≡ n = omega (arith, over, longest_most m (n - 1) a, l.0) in s) long)))
      (cases_lt (suc k) n)
