-- What is known after each kind of visit, as the search stores its nodes
use Rattle.std.proofs.Common.{◌≡◌, ℕ, zero, suc, ◌+◌, ◌-◌, ◌<◌, ◌≤◌, Bool, true, false, List, [], ◌∷◌, ◌++◌, length, take, drop, map, All, refl, sym, ◌∙◌, ap, subst, arith, ⊎_elim, ℤ, pos, ◌+ℤ◌, ◌≤ℤ◌, ◌<ℤ◌, length-append}
use Rattle.std.specs.List.{AllByRecursion}
use Rattle.std.proofs.lemmas.Bool.{cases_lt}
use Rattle.std.proofs.lemmas.List.{map_push, length-map, length-take, length_push, take_at, take_all, take-append-le}
use Rattle.std.proofs.lemmas.List.Elements.{All-push, All-weaker, recursion_from_All}
use Rattle.sched_model.specs.declared.trees.TreeNode.{TreeNode}
use Rattle.sched_model.specs.declared.trees.TreeNode.TheVariants.{Branch, Short, Full, Cycle}
use Rattle.sched_model.specs.Numbers.{span}
use Rattle.sched_model.specs.PlainMode.{PlainMode}
use Rattle.sched_model.specs.ConstraintProblem.{Decision, alternatives, decisions, in_force, load_of}
use Rattle.sched_model.specs.OpenPrefix.{Open}
use Rattle.sched_model.specs.SearchCost.{LeadsAt, Visited}
use Rattle.sched_model.specs.PrintedSchedule.{FirstList}
use Rattle.tick_num.specs.declared.differences.Diff.{Diff}
use Rattle.tick_num.specs.Differences.{MeetsAll}
use Rattle.std.specs.Prelude.{int_lt, if◌then◌else◌, Result, Ok, Err, IfOk, Option, Some, None}
use Rattle.branch_search.specs.declared.walk.Next.{Next}
use Rattle.branch_search.specs.declared.walk.Next.TheVariants as nexts
use Rattle.branch_search.specs.Forcing.{HasSolution, before_last, Fronts}
use Rattle.branch_search.specs.Coming.{IsStep, Comes, Benched, TallyFor}
use Rattle.branch_search.proofs.Forces.{fronts_leaf, fronts_open}
use Rattle.sched_model.specs.RefutationTree.{Node, branch, cycle, node_of, IsStored, Roomy, OwnTree}
use Rattle.branch_search.specs.Stacks.{at_, Step, Due, Complete, next_due, Follows}
use Rattle.constraint_set.specs.Loads.{Tally, tally_of}
use Rattle.branch_search.specs.Walking.{Whole, Reached, Standing, Sees}
use Rattle.branch_search.proofs.Numbered.{span_none}
use Rattle.branch_search.proofs.Walks.{After, entered, comes_next, ended, no_children, is_first, full_found, level_at}
use Rattle.branch_search.proofs.Tallies.{tally_next}

drop_front : (n : ℕ) (xs ys : List ℕ) → n ≤ length xs → drop n (xs ++ ys) ≡ drop n xs ++ ys
drop_front zero xs ys l = refl
drop_front (suc n) [] ys l = absurd (omega arith)
drop_front (suc n) (x ∷ xs) ys l = drop_front n xs ys (omega arith)

drop_length : (n : ℕ) (xs : List ℕ) → length (drop n xs) + n ≡ length xs + (n - length xs)
drop_length zero xs = omega arith
drop_length (suc n) [] = omega arith
drop_length (suc n) (x ∷ xs) = omega (arith, drop_length n xs)

-- more numbers after those that there were change no stored node
kept : (refs more : List ℕ) (node : TreeNode) → IsStored refs node → IsStored (refs ++ more) node
kept refs more Branch s = s
kept refs more Short s = s
kept refs more (Full j) s = s
kept refs more (Cycle from len) s = omega (arith, s, length-append refs more)

reads_same : (refs more : List ℕ) (node : TreeNode) → IsStored refs node → node_of (refs ++ more) node ≡ node_of refs node
reads_same refs more Branch s = refl
reads_same refs more Short s = refl
reads_same refs more (Full j) s = refl
reads_same refs more (Cycle from len) s =
    ap cycle (ap (take len) (drop_front from refs more (omega (arith, s))) ∙ take-append-le len (drop from refs) more (omega (arith, s, drop_length from refs)))

all_same : (refs more : List ℕ) (nodes : List TreeNode) → AllByRecursion (IsStored refs) nodes → map (node_of (refs ++ more)) nodes ≡ map (node_of refs) nodes
all_same refs more [] s = refl
all_same refs more (n ∷ ns) s = ap (λ (x : Node). x ∷ map (node_of (refs ++ more)) ns) (reads_same refs more n s.0) ∙ ap (λ (l : List Node). node_of refs n ∷ l) (all_same refs more ns s.1)

abbrev due_length : Step → ℕ
due_length (Due q h) = length q
due_length Complete = 0

-- the prefix that is due once a tree is whole is no longer
at_most_by : (k : ℕ) (p g : List ℤ) (b : Bool) → due_length (next_due k p g) ≤ k → due_length (if b then Due (take k p ++ (at_ p k +ℤ pos 1) ∷ []) (take (suc k) g) else next_due k p g) ≤ suc k
at_most_by k p g true l = omega (arith, length_push (take k p) (at_ p k +ℤ pos 1), length-take k p)
at_most_by k p g false l = omega (arith, l)

due_at_most : (k : ℕ) (p g : List ℤ) → due_length (next_due k p g) ≤ k
due_at_most zero p g = omega arith
due_at_most (suc k) p g = at_most_by k p g (int_lt (at_ p k) (at_ g k)) (due_at_most k p g)

due_short : (k : ℕ) (p g q h : List ℤ) → next_due k p g ≡ Due q h → length q ≤ k
due_short k p g q h e = subst (λ (s : Step). due_length s ≤ k) e (due_at_most k p g)

module _ (m : PlainMode) (r : ℕ) where
  abbrev D : ℕ
  D = length (decisions m)

  -- the same stack beside more numbers
  pub standing_more : (p g : List ℤ) (nodes : List TreeNode) (refs more : List ℕ) → Standing m r p g nodes refs → Standing m r p g nodes (refs ++ more)
  standing_more p g nodes refs more s = record {
    same = s.same;
    reached = subst (Reached m r (length p) p g) (sym (all_same refs more nodes (recursion_from_All (IsStored refs) nodes s.stored))) s.reached;
    stored = All-weaker (IsStored refs) (IsStored (refs ++ more)) (kept refs more) nodes s.stored;
  }

  -- after a node that is the whole tree of the prefix
  pub tree_ends : (p g : List ℤ) (nodes : List TreeNode) (refs : List ℕ) (node : TreeNode) → Standing m r p g nodes refs → Whole m r (D - length p) p (node_of refs node ∷ []) → After m r p (map (node_of refs) (nodes ++ node ∷ [])) (next_due (length p) p g)
  tree_ends p g nodes refs node s t =
      comes_next m r (length p) p g (map (node_of refs) (nodes ++ node ∷ [])) (omega arith) s.same
      (subst (λ (l : List Node). (above : List Node) × (tree : List Node) × Reached m r (length p) p g above × Whole m r (D - length p) (take (length p) p) tree × (l ≡ above ++ tree)) (sym (map_push (node_of refs) nodes node))
      (ended m r p g (map (node_of refs) nodes) (node_of refs node) s.reached t))

  pub due_stands : (p q h : List ℤ) (nodes nodes' : List TreeNode) (refs : List ℕ) (node : TreeNode) (s : Step) → After m r p (map (node_of refs) (nodes ++ node ∷ [])) s → All (IsStored refs) nodes → IsStored refs node → nodes' ≡ nodes ++ node ∷ [] → s ≡ Due q h →
      Standing m r q h nodes' refs × Follows p q × (length nodes' ≡ suc (length nodes))
  due_stands p q h nodes nodes' refs node s a old new e is =
      let w = subst (λ (l : List TreeNode). After m r p (map (node_of refs) l) (Due q h)) (sym e) (subst (After m r p (map (node_of refs) (nodes ++ node ∷ []))) is a) in (
        record { same = w.1; reached = w.0; stored = subst (λ (l : List TreeNode). All (IsStored refs) l) (sym e) (All-push (IsStored refs) nodes node old new) },
        w.2,
        ap (λ (l : List TreeNode). length l) e ∙ length_push nodes node ∙ omega arith,
      )

  pub none_refutes : (p : List ℤ) (nodes nodes' : List TreeNode) (refs : List ℕ) (node : TreeNode) (s : Step) → After m r p (map (node_of refs) (nodes ++ node ∷ [])) s → All (IsStored refs) nodes → IsStored refs node → nodes' ≡ nodes ++ node ∷ [] → s ≡ Complete →
      OwnTree m r nodes' refs × (length nodes' ≡ suc (length nodes))
  none_refutes p nodes nodes' refs node s a old new e is =
      let w = subst (λ (l : List TreeNode). After m r p (map (node_of refs) l) Complete) (sym e) (subst (After m r p (map (node_of refs) (nodes ++ node ∷ []))) is a) in (
        record { stored = subst (λ (l : List TreeNode). All (IsStored refs) l) (sym e) (All-push (IsStored refs) nodes node old new); tree = w },
        ap (λ (l : List TreeNode). length l) e ∙ length_push nodes node ∙ omega arith,
      )

  -- at the first alternative of an open prefix
  pub first_stands : (p g : List ℤ) (nodes : List TreeNode) (refs : List ℕ) (low high : ℤ) → Standing m r p g nodes refs → Open m r p → length p < D → span low high ≡ alternatives m r p → low ≤ℤ high →
      Standing m r (p ++ low ∷ []) (g ++ high ∷ []) (nodes ++ Branch ∷ []) refs × Follows p (p ++ low ∷ []) × (length (nodes ++ Branch ∷ []) ≡ suc (length nodes))
  first_stands p g nodes refs low high s o l e le =
      let q = p ++ low ∷ [] in
      let len : length q - 1 ≡ length p = omega (arith, length_push p low) in
      let front : take (length q - 1) q ≡ take (length q - 1) p = ap (λ n. take n q) len ∙ take_at p (low ∷ []) (length p) refl ∙ sym (take_all (length p) p (omega arith)) ∙ ap (λ n. take n p) (sym len) in (
        record {
          same = omega (arith, length_push p low, length_push g high, s.same);
          reached = subst (Reached m r (length q) q (g ++ high ∷ [])) (sym (map_push (node_of refs) nodes Branch)) (entered m r p g (map (node_of refs) nodes) low high s.reached s.same l o e le);
          stored = All-push (IsStored refs) nodes Branch s.stored tt;
        },
        (omega (arith, len), front),
        length_push nodes Branch ∙ omega arith,
      )

  -- before any visit
  pub root_stands : Standing m r [] [] [] []
  root_stands = record { same = refl; reached = refl; stored = λ k d l. absurd (omega (arith, l)) }

  -- at a full open prefix
  pub found_here : (p g : List ℤ) (nodes : List TreeNode) (refs : List ℕ) → Standing m r p g nodes refs → length p ≡ D → Open m r p → FirstList m r p × (p ≡ p) × LeadsAt m r × Visited m r (suc (length nodes))
  found_here p g nodes refs s e o =
      let w = full_found m r p g (map (node_of refs) nodes) s.reached e o in
      (is_first m r p g (map (node_of refs) nodes) s.reached e o, refl, w.0, subst (λ n. Visited m r (suc n)) (length-map nodes (node_of refs)) w.1)

  pub empty_ends : (p g : List ℤ) (nodes : List TreeNode) (refs : List ℕ) (low high : ℤ) → Standing m r p g nodes refs → Open m r p → length p < D → span low high ≡ alternatives m r p → high <ℤ low → Whole m r (D - length p) p (branch ∷ [])
  empty_ends p g nodes refs low high s o l e less = no_children m r p l o (sym e ∙ span_none low high less)

  -- after `end_tree`
  pub ended_comes : {E : Type 0} (p g q h : List ℤ) (nodes nodes' : List TreeNode) (refs refs' : List ℕ) (node : TreeNode) (result : Result Next E) → IfOk result (λ _. nodes' ≡ nodes ++ node ∷ []) → IfOk result (λ next. IsStep q h (next_due (length p) p g) next) → refs' ≡ refs →
      Standing m r p g nodes refs → Whole m r (D - length p) p (node_of refs node ∷ []) → IsStored refs node → IfOk result (λ next. Comes m r p (length nodes) q h nodes' refs' next)
  ended_comes p g q h nodes nodes' refs refs' node (Ok nexts.Due) a b e s t i =
      subst (λ (l : List ℕ). Standing m r q h nodes' l × Follows p q × (length nodes' ≡ suc (length nodes))) (sym e) (due_stands p q h nodes nodes' refs node (next_due (length p) p g) (tree_ends p g nodes refs node s t) s.stored i a b)
  ended_comes p g q h nodes nodes' refs refs' node (Ok nexts.Refuted) a b e s t i =
      subst (λ (l : List ℕ). OwnTree m r nodes' l × (length nodes' ≡ suc (length nodes))) (sym e) (none_refutes p nodes nodes' refs node (next_due (length p) p g) (tree_ends p g nodes refs node s t) s.stored i a b)
  ended_comes p g q h nodes nodes' refs refs' node (Ok nexts.Found) a b e s t i = absurd b
  ended_comes p g q h nodes nodes' refs refs' node (Err x) a b e s t i = tt

  -- after the first alternative is taken
  pub first_comes : (p g p' g' : List ℤ) (nodes nodes' : List TreeNode) (refs : List ℕ) (low high a b : ℤ) → a ≡ low → b ≡ high → p' ≡ p ++ a ∷ [] → g' ≡ g ++ b ∷ [] → nodes' ≡ nodes ++ Branch ∷ [] →
      Standing m r p g nodes refs → Open m r p → length p < D → span low high ≡ alternatives m r p → a ≤ℤ b → Standing m r p' g' nodes' refs × Follows p p' × (length nodes' ≡ suc (length nodes))
  first_comes p g p' g' nodes nodes' refs low high a b ea eb ep eg en s o l e le =
      let e' : span a b ≡ alternatives m r p = ap (λ (z : ℤ). span z b) ea ∙ ap (span low) eb ∙ e in
      subst (λ (l : List TreeNode). Standing m r p' g' l refs × Follows p p' × (length l ≡ suc (length nodes))) (sym en)
      (subst (λ (q : List ℤ). Standing m r p' q (nodes ++ Branch ∷ []) refs × Follows p p' × (length (nodes ++ Branch ∷ []) ≡ suc (length nodes))) (sym eg)
      (subst (λ (q : List ℤ). Standing m r q (g ++ b ∷ []) (nodes ++ Branch ∷ []) refs × Follows p q × (length (nodes ++ Branch ∷ []) ≡ suc (length nodes))) (sym ep)
      (first_stands p g nodes refs a b s o l e' le)))

  -- the list of constraints at the next prefix
  pub leaf_benched : {E : Type 0} (p g q h : List ℤ) (list : List Diff) (nodes nodes' : List TreeNode) (refs refs' : List ℕ) (result : Result Next E) → IfOk result (λ next. IsStep q h (next_due (length p) p g) next) → IfOk result (λ next. Comes m r p (length nodes) q h nodes' refs' next) →
      Fronts m r p list → length p ≤ D → IfOk result (λ next. Benched m r q list next)
  leaf_benched p g q h list nodes nodes' refs refs' (Ok nexts.Due) b w f l = fronts_leaf m r p q list f l w.1 (due_short (length p) p g q h b)
  leaf_benched p g q h list nodes nodes' refs refs' (Ok nexts.Refuted) b w f l = tt
  leaf_benched p g q h list nodes nodes' refs refs' (Ok nexts.Found) b w f l = absurd b
  leaf_benched p g q h list nodes nodes' refs refs' (Err x) b w f l = tt

  pub open_benched : {E : Type 0} (p q h : List ℤ) (list : List Diff) (n : ℕ) (nodes' : List TreeNode) (refs' : List ℕ) (result : Result Next E) → IfOk result (λ next. Comes m r p n q h nodes' refs' next) →
      list ≡ in_force m r p → Open m r p → length p ≤ D → IfOk result (λ next. Benched m r q list next)
  open_benched p q h list n nodes' refs' (Ok nexts.Due) w e o l = fronts_open m r p q list e l w.1
  open_benched p q h list n nodes' refs' (Ok nexts.Refuted) w e o l = tt
  open_benched p q h list n nodes' refs' (Ok nexts.Found) w e o l = (e ∙ ap (in_force m r) (sym w.1), (o.values.0, subst (MeetsAll o.values.0) (sym e) o.values.1))
  open_benched p q h list n nodes' refs' (Err x) w e o l = tt

  -- what was seen, at the prefix itself
  pub leaf_seen : (p g q : List ℤ) (list : List Diff) (nodes : List TreeNode) (refs refs' : List ℕ) (seen : Option TreeNode) (leaf : TreeNode) → Sees m r q list refs refs' seen → q ≡ p → seen ≡ Some leaf → Standing m r p g nodes refs →
      Standing m r p g nodes refs' × Whole m r (D - length p) p (node_of refs' leaf ∷ []) × IsStored refs' leaf × Fronts m r p list
  leaf_seen p g q list nodes refs refs' seen leaf w e is s =
      let at : Sees m r p list refs refs' (Some leaf) = subst (λ (x : Option TreeNode). Sees m r p list refs refs' x) is (subst (λ (x : List ℤ). Sees m r x list refs refs' seen) e w) in
      (subst (Standing m r p g nodes) (sym at.2.1) (standing_more p g nodes refs at.2.0 s), at.0 (D - length p), at.1, at.3)

  pub open_seen : (p q : List ℤ) (list : List Diff) (refs refs' : List ℕ) (seen : Option TreeNode) → Sees m r q list refs refs' seen → q ≡ p → seen ≡ None → Open m r p × (list ≡ in_force m r p)
  open_seen p q list refs refs' seen w e is =
      let at : Sees m r p list refs refs' None = subst (λ (x : Option TreeNode). Sees m r p list refs refs' x) is (subst (λ (x : List ℤ). Sees m r x list refs refs' seen) e w) in
      (at.0, at.1)

  -- the choices before the last one have a solution
  pub front_solution : (p g : List ℤ) (nodes : List Node) → Reached m r (length p) p g nodes → HasSolution (before_last m r p)
  front_solution [] g nodes w = ((λ x. pos 0), λ k d l. absurd (omega (arith, l)))
  front_solution (v ∷ p) g nodes w = let u = level_at m r (length (v ∷ p)) (length (v ∷ p) - 1) (v ∷ p) g nodes w (omega arith) in u.2.is_open.values

  -- the choices before the last one leave room in each round
  pub front_roomy : (p g : List ℤ) (nodes : List Node) → Reached m r (length p) p g nodes → Roomy m r r (take (length p - 1) p)
  front_roomy p g nodes w =
      ⊎_elim
      (λ (some : 0 < length p). let v = level_at m r (length p) (length p - 1) p g nodes w (omega (arith, some)) in v.2.is_open.loads)
      (λ (none : length p ≤ 0). without p none)
      (cases_lt 0 (length p))
    where
      unnamed : (q : ℕ) (ds : List Decision) → load_of r q ds [] ≡ 0
      unnamed q [] = refl
      unnamed q (d ∷ ds) = refl

      without : (p : List ℤ) → length p ≤ 0 → Roomy m r r (take (length p - 1) p)
      without [] none = λ q l. omega (arith, unnamed q (decisions m))
      without (v ∷ p) none = absurd (omega (arith, none))

  -- the loads of the rounds at the next prefix
  pub tally_comes : {E : Type 0} (p q h : List ℤ) (loads : Tally) (n : ℕ) (nodes' : List TreeNode) (refs' : List ℕ) (result : Result Next E) → IfOk result (λ next. Comes m r p n q h nodes' refs' next) → loads ≡ tally_of m r p → IfOk result (λ next. TallyFor m r q loads next)
  tally_comes p q h loads n nodes' refs' (Ok nexts.Due) w e = tally_next m r p q loads e w.1
  tally_comes p q h loads n nodes' refs' (Ok nexts.Refuted) w e = tt
  tally_comes p q h loads n nodes' refs' (Ok nexts.Found) w e = tt
  tally_comes p q h loads n nodes' refs' (Err x) w e = tt
