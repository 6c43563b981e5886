-- The lines of a valid tree are the nodes of one, and so show that no schedule of so many rounds is right.
use Rattle.std.proofs.Common.{◌≡◌, ℕ, zero, suc, ◌-◌, ◌*◌, ◌<◌, ◌≤◌, true, ◌&&◌, eqb, ltb, leb, List, [], ◌∷◌, ◌++◌, length, map, refl, sym, subst, ℤ, pos, append_assoc, Some, None}
use Rattle.std.specs.Prelude.{int_lt}
use Rattle.std.specs.List.{AllByRecursion, list_all}
use Rattle.std.proofs.lemmas.Bool.{and_parts, ltb-true, leb-true, eqb-true}
use Rattle.std.proofs.lemmas.List.{append-nil}
use Rattle.std.proofs.lemmas.List.Elements.{All-from_recursion}
use borrow.Author.Differences.{below_in, lt-true}
use Rattle.tick_num.specs.declared.differences.Diff.{Diff}
use Rattle.tick_num.specs.Differences.{named, sum_ℤ, Closes, IsCycle, NegativeCycle}
use Rattle.sched_model.specs.declared.schedule.Schedule.{Schedule}
use Rattle.sched_model.specs.PlainMode.{PlainMode, instances}
use Rattle.sched_model.specs.ConstraintProblem.{in_force, alternatives, decisions, load}
use Rattle.sched_model.specs.RefutationTree.{Node, branch, short, full, cycle, EachOf as EachTree, ValidFrom, IsTree}
use Rattle.sched_model.specs.RightSchedule.{IsSchedule}
use Rattle.sched_model.specs.ValidMode.{IsValid}
use Rattle.sched_model.proofs.Backward.{full_open, made}
use Rattle.sched_model.proofs.Refutations.{tree_refutes}
use Rattle.proof_tree.specs.Items.{Branch, Short, Full, Cycle}
use Rattle.proof_tree.specs.TreeLines.{Items, closes, is_cycle, is_negative, leaf_holds, EachOf, ValidLines, TreeStands}

closes_is : (x : ℕ) (ds : List Diff) → closes x ds ≡ true → Closes x ds
closes_is x [] e = absurd cc
closes_is x (d ∷ []) e = eqb-true d.y x e
closes_is x (d ∷ f ∷ ds) e = let p = and_parts (eqb d.y f.x) (closes x (f ∷ ds)) e in (eqb-true d.y f.x p.0, closes_is x (f ∷ ds) p.1)

cycle_is : (ds : List Diff) → is_cycle ds ≡ true → IsCycle ds
cycle_is [] e = absurd cc
cycle_is (d ∷ ds) e = closes_is d.x (d ∷ ds) e

below_all : (n : ℕ) (refs : List ℕ) → list_all (λ i. ltb i n) refs ≡ true → AllByRecursion (λ i. i < n) refs
below_all n [] e = tt
below_all n (i ∷ refs) e = let p = and_parts (ltb i n) (list_all (λ j. ltb j n) refs) e in (ltb-true i n p.0, below_all n refs p.1)

negative_is : (ds : List Diff) (refs : List ℕ) → is_negative ds refs ≡ true → NegativeCycle ds refs
negative_is ds refs e =
    let p = and_parts (list_all (λ i. ltb i (length ds)) refs && is_cycle (named ds refs)) (int_lt (sum_ℤ (map (λ d. d.c) (named ds refs))) (pos 0)) e in
    let q = and_parts (list_all (λ i. ltb i (length ds)) refs) (is_cycle (named ds refs)) p.0 in
    record {
      within = All-from_recursion (λ i. i < length ds) refs (below_all (length ds) refs q.0);
      closed = cycle_is (named ds refs) q.1;
      negative = below_in (sum_ℤ (map (λ d. d.c) (named ds refs))) (pos 0) (lt-true (sum_ℤ (map (λ d. d.c) (named ds refs))) (pos 0) p.1);
    }

-- ---- what leaves say

pub short_is : (m : PlainMode) (r : ℕ) (p : List ℤ) → leaf_holds m r p Short ≡ true → r * m.slots < instances m
short_is m r p e = ltb-true _ _ e

pub full_is : (m : PlainMode) (r : ℕ) (p : List ℤ) (j : ℕ) → leaf_holds m r p (Full j) ≡ true → (1 ≤ j) × (j ≤ r) × (m.slots < load m r (j - 1) p)
full_is m r p j e =
    let a = and_parts (leb 1 j && leb j r) (ltb m.slots (load m r (j - 1) p)) e in
    let b = and_parts (leb 1 j) (leb j r) a.0 in
    (leb-true _ _ b.0, leb-true _ _ b.1, ltb-true _ _ a.1)

pub negative_cycle_is : (m : PlainMode) (r : ℕ) (p : List ℤ) (refs : List ℕ) → leaf_holds m r p (Cycle refs) ≡ true → NegativeCycle (in_force m r p) refs
negative_cycle_is m r p refs e = negative_is (in_force m r p) refs e

-- nodes that begin with a tree, whatever comes behind them
abbrev Nodes : (List Node → List Node → Type 0) → Type 0
Nodes W = (nodes : List Node) × ((behind : List Node) → W (nodes ++ behind) behind)

each_nodes : (V : ℤ → Items → Items → Type 0) (W : ℤ → List Node → List Node → Type 0) → ((a : ℤ) (ls rest : Items) → V a ls rest → Nodes (W a))
    → (as' : List ℤ) (ls rest : Items) → EachOf V as' ls rest → Nodes (EachTree W as')
each_nodes V W f [] ls rest e = ([], λ behind. refl)
each_nodes V W f (a ∷ as') ls rest e =
    let one = f a ls e.0 e.1 in
    let others = each_nodes V W f as' e.0 rest e.2 in
    (one.0 ++ others.0, λ behind. (others.0 ++ behind, subst (λ (l : List Node). W a l (others.0 ++ behind)) (sym (append_assoc one.0 others.0 behind)) (one.1 (others.0 ++ behind)), others.1 behind))

nodes_of : (m : PlainMode) (r n : ℕ) (p : List ℤ) (ls rest : Items) → ValidLines m r n p ls rest → Nodes (ValidFrom m r n p)
nodes_of m r n p [] rest t = absurd t
nodes_of m r zero p (Some Branch ∷ ls) rest t = absurd t
nodes_of m r (suc n) p (Some Branch ∷ ls) rest t =
    let e = each_nodes (λ a. ValidLines m r n (p ++ a ∷ [])) (λ a. ValidFrom m r n (p ++ a ∷ [])) (λ a ks mid v. nodes_of m r n (p ++ a ∷ []) ks mid v) (alternatives m r p) ls rest t in
    (branch ∷ e.0, λ behind. e.1 behind)
nodes_of m r n p (Some Short ∷ ls) rest t = (short ∷ [], λ behind. (ltb-true _ _ t.0, refl))
nodes_of m r n p (Some (Full j) ∷ ls) rest t =
    let a = and_parts (leb 1 j && leb j r) (ltb m.slots (load m r (j - 1) p)) t.0 in
    let b = and_parts (leb 1 j) (leb j r) a.0 in
    (full j ∷ [], λ behind. (leb-true _ _ b.0, leb-true _ _ b.1, ltb-true _ _ a.1, refl))
nodes_of m r n p (Some (Cycle refs) ∷ ls) rest t = (cycle refs ∷ [], λ behind. (negative_is (in_force m r p) refs t.0, refl))
nodes_of m r n p (None ∷ ls) rest t = absurd t
nodes_of m r n p (Some other ∷ ls) rest t = absurd t

-- the nodes of the lines of a tree
pub tree_of : (m : PlainMode) (r : ℕ) (ls rest : Items) → TreeStands m r ls rest → (nodes : List Node) × IsTree m r nodes
tree_of m r ls rest t =
    let n = nodes_of m r (length (decisions m)) [] ls rest t in
    (n.0, subst (λ (l : List Node). ValidFrom m r (length (decisions m)) [] l []) (append-nil n.0) (n.1 []))

pub lines_refute : (m : PlainMode) (r : ℕ) (ls rest : Items) → IsValid m → TreeStands m r ls rest → (s : Schedule) → IsSchedule m r s → ⊥
lines_refute m r ls rest ok t s is = let n = tree_of m r ls rest t in tree_refutes m r n.0 n.1 (made m r s ok is).0 (full_open m r s ok is)
