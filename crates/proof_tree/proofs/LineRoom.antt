-- The lines of own trees are within the limits.
use Rattle.std.proofs.Common.{◌≡◌, ℕ, zero, suc, ◌+◌, ◌*◌, ◌<◌, ◌≤◌, true, ltb, ℤ, List, [], ◌∷◌, ◌++◌, length, map, refl, sym, subst, arith, length-append}
use Rattle.std.specs.Prelude.{codes}
use Rattle.std.specs.List.{AllByRecursion, list_all, join_with_byte}
use Rattle.std.proofs.lemmas.Bool.{and_from, lt-ltb, le-leb}
use Rattle.std.proofs.lemmas.List.{length-map}
use Rattle.std.proofs.lemmas.List.Elements.{recursion_from_All}
use Rattle.tick_num.specs.declared.differences.Diff.{Diff}
use Rattle.tick_num.specs.Differences.{named, IsCycle, NegativeCycle}
use Rattle.sched_model.specs.declared.trees.TreeNode.{TreeNode}
use Rattle.sched_model.specs.PlainMode.{PlainMode}
use Rattle.sched_model.specs.ConstraintProblem.{in_force, alternatives, decisions}
use Rattle.sched_model.specs.ProblemLimits.{ProblemFits}
use Rattle.sched_model.specs.RefutationTree.{Node, branch, short, full, cycle, node_of, EachOf, OwnFrom}
use Rattle.sched_model.proofs.Lengths.{problem_fits}
use Rattle.ttw_text.specs.Numbers.{spelled}
use Rattle.ttw_text.proofs.Spellings.{length-spelled-le}
use Rattle.proof_tree.specs.Items.{Refute, Branch, Short, Full, Cycle}
use Rattle.proof_tree.specs.Grammar.{greatest}
use Rattle.proof_tree.specs.Spelled.{fits}
use Rattle.proof_tree.specs.PlanText.{node_item, stored_item}
use Rattle.proof_tree.specs.DocumentLaws.{HasRoom, OwnTreesHaveRoom}

-- a line of short words is as long as its first word and they are at most
pub joined_length : (c : ℕ) (w : List ℕ) (ws : List (List ℕ)) → AllByRecursion (λ v. length v < c) ws → length (join_with_byte 32 (w ∷ ws)) ≤ length w + length ws * c
joined_length c w [] h = omega arith
joined_length c w (v ∷ vs) h = omega (arith, length-append w (32 ∷ join_with_byte 32 (v ∷ vs)), joined_length c v vs h.1, h.0)

pub spelled_short : (n : ℕ) → n ≤ 65536 → length (spelled n) < 6
spelled_short n h = let l : length (spelled n) ≤ 5 = length-spelled-le 5 n (omega arith) (omega (arith, h)) (omega (arith, h)) in omega (arith, l)

numbers_short : (ns : List ℕ) → AllByRecursion (λ n. n < 65536) ns → AllByRecursion (λ v. length v < 6) (map spelled ns)
numbers_short [] h = tt
numbers_short (n ∷ ns) h = (spelled_short n (omega (arith, h.0)), numbers_short ns h.1)

pub number_fits : (n : ℕ) → n ≤ 65536 → fits n ≡ true
number_fits n h = le-leb n greatest (omega (arith, h))

numbers_fit : (ns : List ℕ) → AllByRecursion (λ n. n < 65536) ns → list_all fits ns ≡ true
numbers_fit [] h = refl
numbers_fit (n ∷ ns) h = and_from (fits n) (list_all fits ns) (number_fits n (omega (arith, h.0))) (numbers_fit ns h.1)

pub refute_room : (r : ℕ) → r ≤ 256 → HasRoom (Refute r)
refute_room r le = record {
  writable = number_fits r (omega (arith, le));
  short = let l = joined_length 6 (codes "refute") (spelled r ∷ []) (spelled_short r (omega (arith, le)), tt) in let six : length (codes "refute") ≡ 6 = refl in omega (arith, l, six);
}

full_room : (j : ℕ) → j ≤ 256 → HasRoom (Full j)
full_room j le = record {
  writable = number_fits j (omega (arith, le));
  short = let l = joined_length 6 (codes "full") (spelled j ∷ []) (spelled_short j (omega (arith, le)), tt) in let four : length (codes "full") ≡ 4 = refl in omega (arith, l, four);
}

branch_room : HasRoom Branch
branch_room = record { writable = refl; short = let l : length (join_with_byte 32 (codes "branch" ∷ [])) ≡ 6 = refl in omega (arith, l) }

short_room : HasRoom Short
short_room = record { writable = refl; short = let l : length (join_with_byte 32 (codes "short" ∷ [])) ≡ 5 = refl in omega (arith, l) }

cycle_room : (refs : List ℕ) → 0 < length refs → length refs ≤ 512 → AllByRecursion (λ n. n < 65536) refs → HasRoom (Cycle refs)
cycle_room refs some few small = record {
  writable = and_from (ltb 0 (length refs)) (list_all fits refs) (lt-ltb 0 (length refs) some) (numbers_fit refs small);
  short = let l = joined_length 6 (codes "cycle") (map spelled refs) (numbers_short refs small) in let five : length (codes "cycle") ≡ 5 = refl in omega (arith, l, five, length-map refs spelled, few);
}

-- a cycle has one position or more
has_positions : (ds : List Diff) (refs : List ℕ) → IsCycle (named ds refs) → 0 < length refs
has_positions ds [] c = absurd c
has_positions ds (i ∷ refs) c = omega arith

lower : (n : ℕ) (refs : List ℕ) → n ≤ 65536 → AllByRecursion (λ i. i < n) refs → AllByRecursion (λ i. i < 65536) refs
lower n [] le h = tt
lower n (i ∷ refs) le h = (omega (arith, le, h.0), lower n refs le h.1)

-- ---- the nodes of a tree

abbrev NodesFit : List Node → Type 0
NodesFit nodes = AllByRecursion (λ node. HasRoom (node_item node)) nodes

each_fit : (W : ℤ → List Node → List Node → Type 0) → ((a : ℤ) (nodes rest : List Node) → W a nodes rest → NodesFit rest → NodesFit nodes)
    → (as' : List ℤ) (nodes rest : List Node) → EachOf W as' nodes rest → NodesFit rest → NodesFit nodes
each_fit W f [] nodes rest e fit = subst NodesFit (sym e) fit
each_fit W f (a ∷ as') nodes rest e fit = f a nodes e.0 e.1 (each_fit W f as' e.0 rest e.2 fit)

nodes_fit : (m : PlainMode) (r n : ℕ) (p : List ℤ) (nodes rest : List Node) → ProblemFits m r → r ≤ 256 → OwnFrom m r n p nodes rest → NodesFit rest → NodesFit nodes
nodes_fit m r n p [] rest ok le t fit = tt
nodes_fit m r zero p (branch ∷ nodes) rest ok le t fit = absurd t
nodes_fit m r (suc n) p (branch ∷ nodes) rest ok le t fit =
    (branch_room, each_fit (λ a. OwnFrom m r n (p ++ a ∷ [])) (λ a ns mid v behind. nodes_fit m r n (p ++ a ∷ []) ns mid ok le v behind) (alternatives m r p) nodes rest t.1 fit)
nodes_fit m r n p (short ∷ nodes) rest ok le t fit = (short_room, subst NodesFit (sym t.1) fit)
nodes_fit m r n p (full j ∷ nodes) rest ok le t fit = (full_room j (omega (arith, le, t.2)), subst NodesFit (sym t.5) fit)
nodes_fit m r n p (cycle refs ∷ nodes) rest ok le t fit =
    let ds = in_force m r p in
    let c : NegativeCycle ds refs = t.3 in
    let small = lower (length ds) refs (ok.few p) (recursion_from_All (λ i. i < length ds) refs c.within) in
    (cycle_room refs (has_positions ds refs c.closed) (omega (arith, t.2, ok.variables)) small, subst NodesFit (sym t.4) fit)

stored_fit : (refs : List ℕ) (nodes : List TreeNode) → NodesFit (map (node_of refs) nodes) → AllByRecursion HasRoom (map (stored_item refs) nodes)
stored_fit refs [] h = tt
stored_fit refs (n ∷ ns) h = (h.0, stored_fit refs ns h.1)

pub own_trees_have_room : OwnTreesHaveRoom
own_trees_have_room m r tree ok limited some le own =
    let few : r ≤ 256 = omega (arith, le, limited.rounds) in
    let fit = problem_fits m r ok limited some le in
    (refute_room r few, stored_fit tree.refs tree.nodes (nodes_fit m r (length (decisions m)) [] (map (node_of tree.refs) tree.nodes) [] fit few own.tree tt))
