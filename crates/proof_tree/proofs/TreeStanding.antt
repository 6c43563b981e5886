-- The lines of a valid tree stand for it.
use Rattle.std.proofs.Common.{◌+◌, ◌≡◌, ℕ, zero, suc, ◌-◌, ◌<◌, Bool, true, false, ◌&&◌, eqb, ltb, leb, List, [], ◌∷◌, ◌++◌, length, map, refl, ap, subst, arith, ℤ, pos, ◌<ℤ◌, Some, eq-eqb, append_assoc, ◌∙◌}
use Rattle.std.specs.Prelude.{int_lt, All}
use Rattle.std.specs.List.{list_all, flat_map, enumerate_from}
use Rattle.std.specs.Int.Signed.{lt_z_no}
use Rattle.std.proofs.lemmas.List.{map-append}
use Rattle.std.proofs.lemmas.Bool.{and_from, lt-ltb, le-leb}
use Rattle.std.proofs.lemmas.Int.{ints}
use Rattle.tick_num.specs.declared.differences.Diff.{Diff}
use Rattle.tick_num.specs.Differences.{named, sum_ℤ, Closes, IsCycle, NegativeCycle}
use Rattle.sched_model.specs.declared.trees.TreeNode.{TreeNode}
use Rattle.sched_model.specs.PlainMode.{PlainMode}
use Rattle.sched_model.specs.ConstraintProblem.{in_force, alternatives, decisions, load}
use Rattle.sched_model.specs.RefutationTree.{Node, branch, short, full, cycle, node_of, EachOf as EachTree, ValidFrom}
use Rattle.proof_tree.specs.Items.{Item, Refute}
use Rattle.proof_tree.specs.PlanText.{node_item, stored_item, tree_items, refuted_items}
use Rattle.proof_tree.specs.TreeLines.{Items, closes, is_cycle, is_negative, EachOf, ValidLines, TreeStands}
use Rattle.proof_tree.specs.DocumentLaws.{TreesStand, ListsStand}

closes_test : (x : ℕ) (ds : List Diff) → Closes x ds → closes x ds ≡ true
closes_test x [] c = absurd c
closes_test x (d ∷ []) c = eq-eqb d.y x c
closes_test x (d ∷ e ∷ ds) c = and_from (eqb d.y e.x) (closes x (e ∷ ds)) (eq-eqb d.y e.x c.0) (closes_test x (e ∷ ds) c.1)

cycle_test : (ds : List Diff) → IsCycle ds → is_cycle ds ≡ true
cycle_test [] c = absurd c
cycle_test (d ∷ ds) c = closes_test d.x (d ∷ ds) c

below_test : (n : ℕ) (refs : List ℕ) → All (λ i. i < n) refs → list_all (λ i. ltb i n) refs ≡ true
below_test n [] h = refl
below_test n (i ∷ refs) h =
    and_from (ltb i n) (list_all (λ j. ltb j n) refs) (lt-ltb i n (h 0 i (omega arith))) (below_test n refs (λ k d lt. h (suc k) d (omega arith)))

below_zero : (z : ℤ) → z <ℤ pos 0 → int_lt z (pos 0) ≡ true
below_zero z h = test (int_lt z (pos 0)) refl
  where
    test : (b : Bool) → int_lt z (pos 0) ≡ b → int_lt z (pos 0) ≡ true
    test true e = e
    test false e = let no = lt_z_no {a = z} {b = pos 0} (rw e tt) in absurd (omega (arith, ints, no, h))

negative_test : (ds : List Diff) (refs : List ℕ) → NegativeCycle ds refs → is_negative ds refs ≡ true
negative_test ds refs c =
    and_from (list_all (λ i. ltb i (length ds)) refs && is_cycle (named ds refs)) (int_lt (sum_ℤ (map (λ d. d.c) (named ds refs))) (pos 0))
    (and_from (list_all (λ i. ltb i (length ds)) refs) (is_cycle (named ds refs)) (below_test (length ds) refs c.within) (cycle_test (named ds refs) c.closed))
    (below_zero (sum_ℤ (map (λ d. d.c) (named ds refs))) c.negative)

-- the lines of nodes
abbrev pub lines : List Node → Items
lines nodes = map (λ n. Some (node_item n)) nodes

each_stands : (V : ℤ → Items → Items → Type 0) (W : ℤ → List Node → List Node → Type 0) (ls : Items) → ((a : ℤ) (nodes rest : List Node) → W a nodes rest → V a (lines nodes ++ ls) (lines rest ++ ls))
    → (as' : List ℤ) (nodes rest : List Node) → EachTree W as' nodes rest → EachOf V as' (lines nodes ++ ls) (lines rest ++ ls)
each_stands V W ls f [] nodes rest e = ap (λ (ns : List Node). lines ns ++ ls) e
each_stands V W ls f (a ∷ as') nodes rest e = (lines e.0 ++ ls, f a nodes e.0 e.1, each_stands V W ls f as' e.0 rest e.2)

stands : (m : PlainMode) (r n : ℕ) (p : List ℤ) (nodes rest : List Node) (ls : Items) → ValidFrom m r n p nodes rest → ValidLines m r n p (lines nodes ++ ls) (lines rest ++ ls)
stands m r n p [] rest ls t = absurd t
stands m r zero p (branch ∷ nodes) rest ls t = absurd t
stands m r (suc n) p (branch ∷ nodes) rest ls t =
    each_stands (λ a. ValidLines m r n (p ++ a ∷ [])) (λ a. ValidFrom m r n (p ++ a ∷ [])) ls (λ a ns mid v. stands m r n (p ++ a ∷ []) ns mid ls v) (alternatives m r p) nodes rest t
stands m r n p (short ∷ nodes) rest ls t = (lt-ltb _ _ t.0, ap (λ (ns : List Node). lines ns ++ ls) t.1)
stands m r n p (full j ∷ nodes) rest ls t = (
  and_from (leb 1 j && leb j r) (ltb m.slots (load m r (j - 1) p)) (and_from (leb 1 j) (leb j r) (le-leb _ _ t.0) (le-leb _ _ t.1)) (lt-ltb _ _ t.2),
  ap (λ (ns : List Node). lines ns ++ ls) t.3,
)
stands m r n p (cycle refs ∷ nodes) rest ls t = (negative_test (in_force m r p) refs t.0, ap (λ (ns : List Node). lines ns ++ ls) t.1)

pub stored_lines : (refs : List ℕ) (nodes : List TreeNode) → lines (map (node_of refs) nodes) ≡ map (λ item. Some item) (map (stored_item refs) nodes)
stored_lines refs [] = refl
stored_lines refs (n ∷ ns) = ap (λ (l : Items). Some (stored_item refs n) ∷ l) (stored_lines refs ns)

pub trees_stand : TreesStand
trees_stand m r tree rest t =
    subst (λ (l : Items). TreeStands m r (l ++ rest) rest) (stored_lines tree.refs tree.nodes)
    (stands m r (length (decisions m)) [] (map (node_of tree.refs) tree.nodes) [] rest t.tree)

pub lists_stand : ListsStand
lists_stand m r [] rest v = refl
lists_stand m r (tree ∷ trees) rest v =
    let others : List Item = flat_map refuted_items (enumerate_from (r + 1) trees) in
    let behind : Items = map (λ item. Some item) others ++ rest in
    let same : map (λ item. Some item) (tree_items tree ++ others) ++ rest ≡ map (λ item. Some item) (tree_items tree) ++ behind =
    ap (λ (l : Items). l ++ rest) (map-append (λ item. Some item) (tree_items tree) others)
    ∙ append_assoc (map (λ item. Some item) (tree_items tree)) (map (λ item. Some item) others) rest in
    (map (λ item. Some item) (tree_items tree) ++ behind, behind, ap (λ (l : Items). Some (Refute r) ∷ l) same, trees_stand m r tree behind v.0, lists_stand m (r + 1) trees rest v.1)
