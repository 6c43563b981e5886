-- From one prefix to the next, and from the last one to the answer
use Rattle.std.proofs.Common.{◌≡◌, ℕ, zero, suc, ◌+◌, ◌-◌, ◌<◌, ◌≤◌, Bool, true, false, List, [], ◌∷◌, ◌++◌, length, get_or, take, drop, Contains, refl, sym, ◌∙◌, ap, subst, arith, ◌⊎◌, inl, inr, ⊎_elim, ℤ, pos, ◌+ℤ◌, ◌≤ℤ◌, ◌<ℤ◌, append-nil, append_assoc, length-append, take-append-drop}
use Rattle.std.specs.Prelude.{int_lt, if◌then◌else◌}
use Rattle.std.proofs.lemmas.Bool.{cases_lt}
use Rattle.std.proofs.lemmas.Int.{ints}
use borrow.Author.Differences.{same_in}
use Rattle.std.proofs.lemmas.List.{take_at, take_all, take-take, take_more, get_or-take, get_or_at, length_push, length-take-le}
use Rattle.std.proofs.lemmas.List.Elements.{Contains-append_right, Contains-append_cases}
use Rattle.sched_model.specs.Numbers.{span}
use Rattle.sched_model.specs.PlainMode.{PlainMode}
use Rattle.sched_model.specs.ConstraintProblem.{alternatives, decisions}
use Rattle.sched_model.specs.OpenPrefix.{Open, Chosen, FullOpen}
use Rattle.sched_model.specs.PrintedSchedule.{Before, FirstList}
use Rattle.sched_model.specs.SearchCost.{Leads, SumTo, Visits, LeadsAt, Visited}
use Rattle.sched_model.specs.RefutationTree.{Node, branch, short, full, cycle, EachOf, OwnFrom, IsOwnTree}
use Rattle.sched_model.proofs.Spans.{span_bounds, in_span}
use Rattle.sched_model.proofs.Refutations.{each_has, own_valid}
use Rattle.sched_model.proofs.OwnTrees.{list_leads, tree_count, tree_excludes}
use Rattle.branch_search.specs.Stacks.{at_, Step, Due, Complete, next_due, Follows}
use Rattle.branch_search.specs.Walking.{Whole, Trees, Level, Reached}
use Rattle.branch_search.proofs.Numbered.{span_first, span_one}

-- ---- fronts of stacks
shorter : (k : ℕ) (p q : List ℤ) → take (suc k) p ≡ take (suc k) q → take k p ≡ take k q
shorter k p q e = sym (take-take k (suc k) p (omega arith)) ∙ ap (take k) e ∙ take-take k (suc k) q (omega arith)

top_same : (k : ℕ) (p q : List ℤ) → take (suc k) p ≡ take (suc k) q → at_ p k ≡ at_ q k
top_same k p q e = sym (get_or-take (suc k) p k (pos 0) (omega arith)) ∙ ap (λ (l : List ℤ). get_or l k (pos 0)) e ∙ get_or-take (suc k) q k (pos 0) (omega arith)

one_more : (k : ℕ) (p : List ℤ) → k < length p → take (suc k) p ≡ take k p ++ at_ p k ∷ []
one_more k p l = ap (λ n. take n p) (let e : suc k ≡ k + 1 = omega arith in e) ∙ take_more p k (pos 0) l

module _ (m : PlainMode) (r : ℕ) where
  abbrev D : ℕ
  D = length (decisions m)

  pub reached_same : (k : ℕ) (p q g h : List ℤ) (nodes : List Node) → take k p ≡ take k q → take k g ≡ take k h → Reached m r k p g nodes → Reached m r k q h nodes
  reached_same zero p q g h nodes e f w = w
  reached_same (suc k) p q g h nodes e f (above, trees, l, w, level, is) = (
    above,
    trees,
    l,
    reached_same k p q g h above (shorter k p q e) (shorter k g h f) w,
    subst (λ (z : List ℤ). Level m r (D - suc k) z (at_ q k) (at_ h k) trees) (shorter k p q e)
        (subst (λ (z : ℤ). Level m r (D - suc k) (take k p) z (at_ h k) trees) (top_same k p q e)
        (subst (λ (z : ℤ). Level m r (D - suc k) (take k p) (at_ p k) z trees) (top_same k g h f) level)),
    is,
  )

  -- ---- down: an open prefix that is not full, and its first alternative
  pub entered : (p g : List ℤ) (nodes : List Node) (low high : ℤ) → Reached m r (length p) p g nodes → length g ≡ length p → length p < D → Open m r p → span low high ≡ alternatives m r p → low ≤ℤ high →
      Reached m r (length (p ++ low ∷ [])) (p ++ low ∷ []) (g ++ high ∷ []) (nodes ++ branch ∷ [])
  entered p g nodes low high w s l o e le =
      let k = length p in
      let q = p ++ low ∷ [] in
      let h = g ++ high ∷ [] in
      let fp : take k q ≡ p = take_at p (low ∷ []) k refl in
      let fg : take k h ≡ g = take_at g (high ∷ []) k s in
      let level : Level m r (D - suc k) (take k q) (at_ q k) (at_ h k) [] =
      subst (λ (z : List ℤ). Level m r (D - suc k) z (at_ q k) (at_ h k) []) (sym fp)
      (subst (λ (z : ℤ). Level m r (D - suc k) p z (at_ h k) []) (sym (get_or_at p low [] (pos 0) k refl))
      (subst (λ (z : ℤ). Level m r (D - suc k) p low z []) (sym (get_or_at g high [] (pos 0) k s))
      (record { is_open = o; passed = []; alternatives = sym e; left = le; trees = λ rest. refl }))) in
      let up = reached_same k p q g h nodes (take_all k p (omega arith) ∙ sym fp) (take_all k g (omega (arith, s)) ∙ sym fg) w in
      let all : Reached m r (suc k) q h (nodes ++ branch ∷ []) = (nodes, [], l, up, level, refl) in
      subst (λ n. Reached m r n q h (nodes ++ branch ∷ [])) (let z : suc k ≡ length q = omega (arith, length_push p low) in z) all

  -- ---- up: after the whole tree of the first k choices
  abbrev pub Ended : ℕ → List ℤ → List ℤ → List Node → Type 0
  Ended k p g nodes = (above : List Node) × (tree : List Node) × Reached m r k p g above × Whole m r (D - k) (take k p) tree × (nodes ≡ above ++ tree)

  -- what is known at the step that comes next
  abbrev pub After : List ℤ → List Node → Step → Type 0
  After p nodes (Due q h) = Reached m r (length q) q h nodes × (length h ≡ length q) × Follows p q
  After p nodes Complete = IsOwnTree m r nodes

  each_append : (n : ℕ) (p : List ℤ) (bs cs : List ℤ) (x y z : List Node) → EachOf (λ a. OwnFrom m r n (p ++ a ∷ [])) bs x y → EachOf (λ a. OwnFrom m r n (p ++ a ∷ [])) cs y z → EachOf (λ a. OwnFrom m r n (p ++ a ∷ [])) (bs ++ cs) x z
  each_append n p [] cs x y z e f = subst (λ (l : List Node). EachOf (λ a. OwnFrom m r n (p ++ a ∷ [])) cs l z) (sym e) f
  each_append n p (b ∷ bs) cs x y z (mid, t, e) f = (mid, t, each_append n p bs cs mid y z e f)

  -- the tree of one alternative more
  more_trees : (n : ℕ) (p : List ℤ) (a : ℤ) (bs : List ℤ) (nodes tree : List Node) → Trees m r n p bs nodes → Whole m r n (p ++ a ∷ []) tree → Trees m r n p (bs ++ a ∷ []) (nodes ++ tree)
  more_trees n p a bs nodes tree ts t = λ rest.
      subst (λ (l : List Node). EachOf (λ c. OwnFrom m r n (p ++ c ∷ [])) (bs ++ a ∷ []) l rest) (sym (append_assoc nodes tree rest))
      (each_append n p bs (a ∷ []) (nodes ++ (tree ++ rest)) (tree ++ rest) rest (ts (tree ++ rest)) (rest, t rest, refl))

  -- the branch over all alternatives
  branch_whole : (k : ℕ) (p : List ℤ) (bs : List ℤ) (nodes : List Node) → k < D → Open m r p → alternatives m r p ≡ bs → Trees m r (D - suc k) p bs nodes → Whole m r (D - k) p (branch ∷ nodes)
  branch_whole k p bs nodes l o e ts = λ rest.
      subst (λ n. OwnFrom m r n p (branch ∷ (nodes ++ rest)) rest) (let z : suc (D - suc k) ≡ D - k = omega (arith, l) in z)
      (o, subst (λ (cs : List ℤ). EachOf (λ a. OwnFrom m r (D - suc k) (p ++ a ∷ [])) cs (nodes ++ rest) rest) (sym e) (ts rest))

  next_alternative : (k : ℕ) (p g : List ℤ) (nodes above trees tree whole : List Node) → k < length p → length g ≡ length p → k < D → Reached m r k p g above → Level m r (D - suc k) (take k p) (at_ p k) (at_ g k) trees →
      Whole m r (D - suc k) (take (suc k) p) tree → whole ≡ above ++ branch ∷ trees → nodes ≡ whole ++ tree → at_ p k <ℤ at_ g k → After p nodes (Due (take k p ++ (at_ p k +ℤ pos 1) ∷ []) (take (suc k) g))
  next_alternative k p g nodes above trees tree whole l s d w level t e f less =
      let a = at_ p k in
      let b = at_ g k in
      let front = take k p in
      let q = front ++ (a +ℤ pos 1) ∷ [] in
      let h = take (suc k) g in
      let len : length front ≡ k = length-take-le k p (omega (arith, l)) in
      let fp : take k q ≡ front = take_at front ((a +ℤ pos 1) ∷ []) k len in
      let fg : take k h ≡ take k g = take-take k (suc k) g (omega arith) in
      let up = reached_same k p q g h above (sym fp) (sym fg) w in
      let alts : alternatives m r front ≡ (level.passed ++ a ∷ []) ++ span (a +ℤ pos 1) b =
      level.alternatives ∙ ap (λ (z : List ℤ). level.passed ++ z) (span_first a b level.left) ∙ sym (append_assoc level.passed (a ∷ []) (span (a +ℤ pos 1) b)) in
      let t' = subst (λ (z : List ℤ). Whole m r (D - suc k) z tree) (one_more k p l) t in
      let lv : Level m r (D - suc k) front (a +ℤ pos 1) b (trees ++ tree) =
      record { is_open = level.is_open; passed = level.passed ++ a ∷ []; alternatives = alts; left = omega (arith, ints, less); trees = more_trees (D - suc k) front a level.passed trees tree level.trees t' } in
      let lv' : Level m r (D - suc k) (take k q) (at_ q k) (at_ h k) (trees ++ tree) =
      subst (λ (z : List ℤ). Level m r (D - suc k) z (at_ q k) (at_ h k) (trees ++ tree)) (sym fp)
      (subst (λ (z : ℤ). Level m r (D - suc k) front z (at_ h k) (trees ++ tree)) (sym (get_or_at front (a +ℤ pos 1) [] (pos 0) k len))
      (subst (λ (z : ℤ). Level m r (D - suc k) front (a +ℤ pos 1) z (trees ++ tree)) (sym (get_or-take (suc k) g k (pos 0) (omega arith))) lv)) in
      let is : nodes ≡ above ++ branch ∷ (trees ++ tree) = f ∙ ap (λ (z : List Node). z ++ tree) e ∙ append_assoc above (branch ∷ trees) tree in
      let all : Reached m r (suc k) q h nodes = (above, trees ++ tree, d, up, lv', is) in
      let lq : length q ≡ suc k = omega (arith, len, length_push front (a +ℤ pos 1)) in
      let lh : length h ≡ suc k = length-take-le (suc k) g (omega (arith, l, s)) in
      let top : length q - 1 ≡ k = omega (arith, lq) in (
        subst (λ n. Reached m r n q h nodes) (sym lq) all,
        lh ∙ sym lq,
        (omega (arith, lq, l), ap (λ n. take n q) top ∙ fp ∙ ap (λ n. take n p) (sym top)),
      )

  pub comes_next : (k : ℕ) (p g : List ℤ) (nodes : List Node) → k ≤ length p → length g ≡ length p → Ended k p g nodes → After p nodes (next_due k p g)
  comes_next zero p g nodes l s (above, tree, w, t, e) =
      subst (λ (z : List Node). IsOwnTree m r z) (append-nil tree ∙ sym (e ∙ ap (λ (z : List Node). z ++ tree) w)) (subst (λ n. OwnFrom m r n [] (tree ++ []) []) (let z : D - 0 ≡ D = omega arith in z) (t []))
  comes_next (suc k) p g nodes l s (whole, tree, (above, trees, d, w, level, e), t, f) = decide (λ e'. comes_next k p g nodes (omega (arith, l)) s e') (int_lt (at_ p k) (at_ g k)) refl
    where
      up : at_ g k ≤ℤ at_ p k → Ended k p g nodes
      up ge =
          let same : at_ g k ≡ at_ p k = same_in _ _ (omega (arith, ints, ge, level.left)) in
          let alts : alternatives m r (take k p) ≡ level.passed ++ at_ p k ∷ [] = level.alternatives ∙ ap (λ (z : List ℤ). level.passed ++ z) (span_one (at_ p k) (at_ g k) same) in
          let t' = subst (λ (z : List ℤ). Whole m r (D - suc k) z tree) (one_more k p (omega (arith, l))) t in (
            above,
            branch ∷ (trees ++ tree),
            w,
            branch_whole k (take k p) (level.passed ++ at_ p k ∷ []) (trees ++ tree) d level.is_open alts (more_trees (D - suc k) (take k p) (at_ p k) level.passed trees tree level.trees t'),
            f ∙ ap (λ (z : List Node). z ++ tree) e ∙ append_assoc above (branch ∷ trees) tree,
          )

      decide : (Ended k p g nodes → After p nodes (next_due k p g)) → (b : Bool) → b ≡ int_lt (at_ p k) (at_ g k) → After p nodes (if b then Due (take k p ++ (at_ p k +ℤ pos 1) ∷ []) (take (suc k) g) else next_due k p g)
      decide deeper true h = next_alternative k p g nodes above trees tree whole (omega (arith, l)) s d w level t e f (omega (arith, ints, h))
      decide deeper false h = deeper (up (omega (arith, ints, h)))

  -- ---- the levels above
  pub level_at : (n k : ℕ) (p g : List ℤ) (nodes : List Node) → Reached m r n p g nodes → k < n → (trees : List Node) × (k < D) × Level m r (D - suc k) (take k p) (at_ p k) (at_ g k) trees
  level_at zero k p g nodes w l = absurd (omega (arith, l))
  level_at (suc n) k p g nodes (above, trees, d, w, level, e) l =
      ⊎_elim
      (λ (less : k < n). level_at n k p g above w less)
      (λ (ge : n ≤ k).
      let same : n ≡ k = omega (arith, ge, l) in
      subst (λ j. (ts : List Node) × (j < D) × Level m r (D - suc j) (take j p) (at_ p j) (at_ g j) ts) same (trees, d, level))
      (cases_lt k n)

  among : (k : ℕ) (p g : List ℤ) (trees : List Node) (n : ℕ) → Level m r n (take k p) (at_ p k) (at_ g k) trees → Contains (alternatives m r (take k p)) (at_ p k)
  among k p g trees n level =
      subst (λ (z : List ℤ). Contains z (at_ p k)) (sym level.alternatives) (Contains-append_right level.passed (span (at_ p k) (at_ g k)) (at_ p k) (in_span (at_ p k) (at_ g k) (at_ p k) (omega (arith, ints)) level.left))

  pub is_chosen : (p g : List ℤ) (nodes : List Node) → Reached m r (length p) p g nodes → Chosen m r p
  is_chosen p g nodes w k l = let v = level_at (length p) k p g nodes w l in among k p g v.0 (D - suc k) v.2

  pub few : (p g : List ℤ) (nodes : List Node) → Reached m r (length p) p g nodes → length p ≤ D
  few p g nodes w = at_most (length p) p g nodes w
    where
      at_most : (n : ℕ) (p g : List ℤ) (nodes : List Node) → Reached m r n p g nodes → n ≤ D
      at_most zero p g nodes w = omega arith
      at_most (suc n) p g nodes (above, trees, d, w, level, e) = omega (arith, d)

  -- ---- the first full open list
  -- the first place at which a list that comes before differs
  differs : (q p : List ℤ) → Before q p → (k : ℕ) × (k < length q) × (k < length p) × (take k q ≡ take k p) × (at_ q k <ℤ at_ p k)
  differs [] p h = absurd h
  differs (x ∷ q) [] h = absurd h
  differs (x ∷ q) (y ∷ p) (inl less) = (0, omega arith, omega arith, refl, less)
  differs (x ∷ q) (y ∷ p) (inr (e, h)) =
      let w = differs q p h in
      (suc w.0, omega (arith, w.1), omega (arith, w.2), ap (λ (z : ℤ). z ∷ take w.0 q) e ∙ ap (λ (z : List ℤ). y ∷ z) w.3, w.4)

  pub is_first : (p g : List ℤ) (nodes : List Node) → Reached m r (length p) p g nodes → length p ≡ D → Open m r p → FirstList m r p
  is_first p g nodes w all_of o = record {
    here = record { full = all_of; chosen = is_chosen p g nodes w; is_open = o };
    none_before = λ q f before.
        let d = differs q p before in
        let k = d.0 in
        let v = level_at (length p) k p g nodes w d.2 in
        let level = v.2 in
        let b = at_ q k in
        let c : Contains (level.passed ++ span (at_ p k) (at_ g k)) b =
        subst (λ (z : List ℤ). Contains z b) level.alternatives (subst (λ (z : List ℤ). Contains (alternatives m r z) b) d.3 (f.chosen k d.1)) in
        ⊎_elim
        (λ (old : Contains level.passed b).
        let t = each_has (λ a. OwnFrom m r (D - suc k) (take k p ++ a ∷ [])) level.passed (v.0 ++ []) [] (level.trees []) b old.0 old.1 old.2 in
        let front : take (suc k) q ≡ take k p ++ b ∷ [] = one_more k q d.1 ∙ ap (λ (z : List ℤ). z ++ b ∷ []) d.3 in
        let whole : (take k p ++ b ∷ []) ++ drop (suc k) q ≡ q = ap (λ (z : List ℤ). z ++ drop (suc k) q) (sym front) ∙ take-append-drop (suc k) q in
        let len : length (take k p ++ b ∷ []) + (D - suc k) ≡ D = omega (arith, v.1, length_push (take k p) b, length-take-le k p (omega (arith, d.2))) in
        let leads = list_leads m r (D - suc k) (take k p ++ b ∷ []) (drop (suc k) q) len (subst (FullOpen m r) (sym whole) f) in
        tree_excludes m r (D - suc k) (take k p ++ b ∷ []) t.0 t.1 (own_valid m r (D - suc k) (take k p ++ b ∷ []) t.0 t.1 t.2) leads)
        (λ (new : Contains (span (at_ p k) (at_ g k)) b). let h = span_bounds (at_ p k) (at_ g k) b new in absurd (omega (arith, ints, h.0, d.4)))
        (Contains-append_cases level.passed (span (at_ p k) (at_ g k)) b c);
  }

  -- ---- counts
  module _ (n : ℕ) (p : List ℤ) where
    abbrev Lead : ℤ → Type 0
    Lead a = Leads m r n (p ++ a ∷ [])

    abbrev Count : ℤ → ℕ → Type 0
    Count a = Visits m r n (p ++ a ∷ [])

    dead : (a : ℤ) (x y : List Node) → OwnFrom m r n (p ++ a ∷ []) x y → ¬ (Leads m r n (p ++ a ∷ []))
    dead a x y t = tree_excludes m r n (p ++ a ∷ []) x y (own_valid m r n (p ++ a ∷ []) x y t)

    -- visits of what comes after the alternatives passed
    passing : (bs cs : List ℤ) (x y : List Node) (t : ℕ) → EachOf (λ a. OwnFrom m r n (p ++ a ∷ [])) bs x y → SumTo (λ a. Leads m r n (p ++ a ∷ [])) (λ a. Visits m r n (p ++ a ∷ [])) cs t →
        (s : ℕ) × SumTo (λ a. Leads m r n (p ++ a ∷ [])) (λ a. Visits m r n (p ++ a ∷ [])) (bs ++ cs) s × (s + length y ≡ length x + t)
    passing [] cs x y t e h = (t, h, omega (arith, ap (λ (l : List Node). length l) e))
    passing (b ∷ bs) cs x y t (mid, w, e) h =
        let c = tree_count m r n (p ++ b ∷ []) x mid w in
        let rest = passing bs cs mid y t e h in
        (c.0 + rest.0, (c.0, c.1, inr (dead b x mid w, (rest.0, rest.1, refl))), omega (arith, c.2, rest.2))

  -- an own tree has no more nodes than are visited
  sum_least : (n : ℕ) (p : List ℤ) (bs cs : List ℤ) (x y : List Node) (s : ℕ) → ((a : ℤ) (x y : List Node) (v : ℕ) → OwnFrom m r n (p ++ a ∷ []) x y → Visits m r n (p ++ a ∷ []) v → length x ≤ v + length y) →
      EachOf (λ a. OwnFrom m r n (p ++ a ∷ [])) bs x y → SumTo (λ a. Leads m r n (p ++ a ∷ [])) (λ a. Visits m r n (p ++ a ∷ [])) (bs ++ cs) s →
      (t : ℕ) × SumTo (λ a. Leads m r n (p ++ a ∷ [])) (λ a. Visits m r n (p ++ a ∷ [])) cs t × (length x + t ≤ s + length y)
  sum_least n p [] cs x y s least e h = (s, h, omega (arith, ap (λ (l : List Node). length l) e))
  sum_least n p (b ∷ bs) cs x y s least (mid, w, e) (v, c, alt) = decide (λ z sum. sum_least n p bs cs mid y z least e sum) alt
    where
      decide : ((z : ℕ) → SumTo (λ a. Leads m r n (p ++ a ∷ [])) (λ a. Visits m r n (p ++ a ∷ [])) (bs ++ cs) z → (t : ℕ) × SumTo (λ a. Leads m r n (p ++ a ∷ [])) (λ a. Visits m r n (p ++ a ∷ [])) cs t × (length mid + t ≤ z + length y)) →
          Leads m r n (p ++ b ∷ []) × (s ≡ v) ⊎ (¬ (Leads m r n (p ++ b ∷ []))) × ((z : ℕ) × SumTo (λ a. Leads m r n (p ++ a ∷ [])) (λ a. Visits m r n (p ++ a ∷ [])) (bs ++ cs) z × (s ≡ v + z)) →
          (t : ℕ) × SumTo (λ a. Leads m r n (p ++ a ∷ [])) (λ a. Visits m r n (p ++ a ∷ [])) cs t × (length x + t ≤ s + length y)
      decide more (inl h) = absurd (dead n p b x mid w h.0)
      decide more (inr (dies, (z, sum, is))) =
          let rest = more z sum in
          (rest.0, rest.1, omega (arith, least b x mid v w c, rest.2, is))

  no_less : (n : ℕ) (p : List ℤ) (v : ℕ) → Visits m r n p v → 1 ≤ v
  no_less zero p v h = omega (arith, h)
  no_less (suc n) p v (inl h) = omega (arith, h.1)
  no_less (suc n) p v (inr h) = omega (arith, h.1.2)

  tree_least : (n : ℕ) (p : List ℤ) (x y : List Node) (v : ℕ) → OwnFrom m r n p x y → Visits m r n p v → length x ≤ v + length y
  tree_least n p [] y v t h = absurd t
  tree_least zero p (branch ∷ x) y v t h = absurd t
  tree_least (suc n) p (branch ∷ x) y v t (inl h) = absurd (h.0 t.0)
  tree_least (suc n) p (branch ∷ x) y v t (inr (o, (s, sum, is))) =
      let w = sum_least n p (alternatives m r p) [] x y s (λ a. tree_least n (p ++ a ∷ [])) t.1 (subst (λ (z : List ℤ). SumTo (λ a. Leads m r n (p ++ a ∷ [])) (λ a. Visits m r n (p ++ a ∷ [])) z s) (sym (append-nil (alternatives m r p))) sum) in
      omega (arith, w.2, is)
  tree_least n p (short ∷ x) y v t h = omega (arith, no_less n p v h, ap (λ (l : List Node). length l) t.1)
  tree_least n p (full j ∷ x) y v t h = omega (arith, no_less n p v h, ap (λ (l : List Node). length l) t.5)
  tree_least n p (cycle c ∷ x) y v t h = omega (arith, no_less n p v h, ap (λ (l : List Node). length l) t.4)

  -- where the first k choices lead, the empty list does, and these are the visits
  pub leads_back : (k : ℕ) (p g : List ℤ) (nodes : List Node) (w : ℕ) → k ≤ length p → Reached m r k p g nodes → Leads m r (D - k) (take k p) → Visits m r (D - k) (take k p) w → LeadsAt m r × Visited m r (length nodes + w)
  leads_back zero p g nodes w l e lead v =
      let d : D - 0 ≡ D = omega arith in
      (subst (λ n. Leads m r n []) d lead, subst (λ n. Visits m r D [] n) (let z : w ≡ length nodes + w = omega (arith, ap (λ (x : List Node). length x) e) in z) (subst (λ n. Visits m r n [] w) d v))
  leads_back (suc k) p g nodes w l (above, trees, d, up, level, e) lead v =
      let n = D - suc k in
      let front = take k p in
      let a = at_ p k in
      let more = one_more k p (omega (arith, l)) in
      let lead' : Leads m r n (front ++ a ∷ []) = subst (Leads m r n) more lead in
      let v' : Visits m r n (front ++ a ∷ []) w = subst (λ (z : List ℤ). Visits m r n z w) more v in
      let rest : SumTo (λ b. Leads m r n (front ++ b ∷ [])) (λ b. Visits m r n (front ++ b ∷ [])) (span a (at_ g k)) w =
      subst (λ (z : List ℤ). SumTo (λ b. Leads m r n (front ++ b ∷ [])) (λ b. Visits m r n (front ++ b ∷ [])) z w) (sym (span_first a (at_ g k) level.left)) (w, v', inl (lead', refl)) in
      let sum = passing n front level.passed (span a (at_ g k)) (trees ++ []) [] w (level.trees []) rest in
      let sum' = subst (λ (z : List ℤ). SumTo (λ b. Leads m r n (front ++ b ∷ [])) (λ b. Visits m r n (front ++ b ∷ [])) z sum.0) (sym level.alternatives) sum.1 in
      let is : suc n ≡ D - k = omega (arith, d) in
      let leads : Leads m r (D - k) front = subst (λ z. Leads m r z front) is (level.is_open, a, among k p g trees n level, lead') in
      let visits : Visits m r (D - k) front (suc sum.0) = subst (λ z. Visits m r z front (suc sum.0)) is (inr (level.is_open, (sum.0, sum', refl))) in
      let all = leads_back k p g above (suc sum.0) (omega (arith, l)) up leads visits in
      let count : length above + suc sum.0 ≡ length nodes + w = omega (arith, sum.2, ap (λ (z : List Node). length z) e, length-append above (branch ∷ trees), length-append trees []) in
      (all.0, subst (Visited m r) count all.1)

  -- all that are visited are the nodes so far, those from the first k choices on, and perhaps more
  visits_down : (k : ℕ) (p g : List ℤ) (nodes : List Node) (v : ℕ) → k ≤ length p → Reached m r k p g nodes → Visited m r v → (w : ℕ) × Visits m r (D - k) (take k p) w × (length nodes + w ≤ v)
  visits_down zero p g nodes v l e h = (v, subst (λ n. Visits m r n [] v) (let z : D ≡ D - 0 = omega arith in z) h, omega (arith, ap (λ (x : List Node). length x) e))
  visits_down (suc k) p g nodes v l (above, trees, d, up, level, e) h =
      let n = D - suc k in
      let front = take k p in
      let a = at_ p k in
      let b = at_ g k in
      let u = visits_down k p g above v (omega (arith, l)) up h in
      let is : D - k ≡ suc n = omega (arith, d) in
      deeper n front a b trees level u.0 (subst (λ z. Visits m r z front u.0) is u.1) (λ w sum le. (
        w,
        subst (λ (z : List ℤ). Visits m r n z w) (sym (one_more k p (omega (arith, l)))) sum,
        omega (arith, le, u.2, ap (λ (z : List Node). length z) e, length-append above (branch ∷ trees)),
      ))
    where
      deeper : {X : Type 0} → (n : ℕ) (q : List ℤ) (a b : ℤ) (trees : List Node) → Level m r n q a b trees → (u : ℕ) → Visits m r (suc n) q u → ((w : ℕ) → Visits m r n (q ++ a ∷ []) w → suc (length trees + w) ≤ u → X) → X
      deeper n q a b trees level u (inl h) K = absurd (h.0 level.is_open)
      deeper n q a b trees level u (inr (o, (s, sum, is))) K =
          let sum' = subst (λ (z : List ℤ). SumTo (λ c. Leads m r n (q ++ c ∷ [])) (λ c. Visits m r n (q ++ c ∷ [])) z s) level.alternatives sum in
          let rest = sum_least n q level.passed (span a b) (trees ++ []) [] s (λ c. tree_least n (q ++ c ∷ [])) (level.trees []) sum' in
          let first = subst (λ (z : List ℤ). SumTo (λ c. Leads m r n (q ++ c ∷ [])) (λ c. Visits m r n (q ++ c ∷ [])) z rest.0) (span_first a b level.left) rest.1 in
          let at_least : first.0 ≤ rest.0 = ⊎_elim (λ (h : Leads m r n (q ++ a ∷ []) × (rest.0 ≡ first.0)). omega (arith, h.1))
          (λ (h : (¬ (Leads m r n (q ++ a ∷ []))) × ((y : ℕ) × SumTo (λ c. Leads m r n (q ++ c ∷ [])) (λ c. Visits m r n (q ++ c ∷ [])) (span (a +ℤ pos 1) b) y × (rest.0 ≡ first.0 + y))). omega (arith, h.1.2)) first.2 in
          K first.0 first.1 (omega (arith, rest.2, at_least, is, length-append trees []))

  -- more are visited than there are nodes
  pub more_due : (p g : List ℤ) (nodes : List Node) (v : ℕ) → Reached m r (length p) p g nodes → Visited m r v → length nodes < v
  more_due p g nodes v w h = let u = visits_down (length p) p g nodes v (omega arith) w h in omega (arith, u.2, no_less (D - length p) (take (length p) p) u.0 u.1)

  -- a full open list ends the search
  pub full_found : (p g : List ℤ) (nodes : List Node) → Reached m r (length p) p g nodes → length p ≡ D → Open m r p → LeadsAt m r × Visited m r (suc (length nodes))
  full_found p g nodes w all_of o =
      let k = length p in
      let z : 0 ≡ D - k = omega (arith, all_of) in
      let same = sym (take_all k p (omega arith)) in
      let open' = subst (λ (q : List ℤ). Open m r q) same o in
      let all = leads_back k p g nodes 1 (omega arith) w (subst (λ n. Leads m r n (take k p)) z open') (subst (λ n. Visits m r n (take k p) 1) z refl) in
      (all.0, subst (Visited m r) (let e : length nodes + 1 ≡ suc (length nodes) = omega arith in e) all.1)

  -- a leaf, or a branch without alternatives, is the whole tree of the prefix
  pub ended : (p g : List ℤ) (nodes : List Node) (node : Node) → Reached m r (length p) p g nodes → Whole m r (D - length p) p (node ∷ []) → Ended (length p) p g (nodes ++ node ∷ [])
  ended p g nodes node w t = (nodes, node ∷ [], w, subst (λ (z : List ℤ). Whole m r (D - length p) z (node ∷ [])) (sym (take_all (length p) p (omega arith))) t, refl)

  pub no_children : (p : List ℤ) → length p < D → Open m r p → alternatives m r p ≡ [] → Whole m r (D - length p) p (branch ∷ [])
  no_children p l o e = branch_whole (length p) p [] [] l o e (λ rest. refl)
