-- The lines that stand for a tree are those of a valid one.
use Rattle.std.proofs.Common.{◌≡◌, ℕ, zero, suc, ◌+◌, ◌≤◌, List, [], ◌∷◌, ◌++◌, length, take, drop, map, refl, sym, ◌∙◌, ap, subst, arith, append_assoc, length-append, ℤ, Some, None}
use Rattle.std.specs.List.{AllByRecursion}
use Rattle.std.proofs.Math.Seq.{take-append_seam, drop-append_seam}
use Rattle.std.proofs.lemmas.List.{append-nil, map-append}
use Rattle.std.proofs.lemmas.List.Elements.{All-from_recursion}
use Rattle.sched_model.specs.declared.trees.TreeNode.{TreeNode}
use Rattle.sched_model.specs.declared.trees.TreeNode.TheVariants as stored
use Rattle.sched_model.specs.PlainMode.{PlainMode}
use Rattle.sched_model.specs.ConstraintProblem.{alternatives, decisions}
use Rattle.sched_model.specs.RefutationTree.{Node, branch, short, full, cycle, EachOf as EachTree, ValidFrom, node_of, IsStored}
use Rattle.proof_tree.specs.declared.tree.Tree.{Tree}
use Rattle.proof_tree.specs.Items.{Branch, Short, Full, Cycle}
use Rattle.proof_tree.specs.TreeLines.{Items, EachOf, ValidLines, TreeStands}
use Rattle.proof_tree.specs.DocumentLaws.{HasTree, TreesAreValid}
use Rattle.proof_tree.proofs.TreeRefuting.{short_is, full_is, negative_cycle_is}
use Rattle.proof_tree.proofs.TreeStanding.{lines, stored_lines, trees_stand}

-- ---- nodes as they are stored

-- the nodes, where the next cycle's numbers stand from this place on
nodes_from : ℕ → List Node → List TreeNode
nodes_from at [] = []
nodes_from at (branch ∷ ns) = stored.Branch ∷ nodes_from at ns
nodes_from at (short ∷ ns) = stored.Short ∷ nodes_from at ns
nodes_from at (full j ∷ ns) = stored.Full j ∷ nodes_from at ns
nodes_from at (cycle refs ∷ ns) = stored.Cycle at (length refs) ∷ nodes_from (at + length refs) ns

-- the numbers of all cycles
numbers : List Node → List ℕ
numbers [] = []
numbers (branch ∷ ns) = numbers ns
numbers (short ∷ ns) = numbers ns
numbers (full j ∷ ns) = numbers ns
numbers (cycle refs ∷ ns) = refs ++ numbers ns

abbrev Reads : List ℕ → ℕ → List Node → Type 0
Reads refs at ns = (map (node_of refs) (nodes_from at ns) ≡ ns) × AllByRecursion (IsStored refs) (nodes_from at ns)

reads : (before : List ℕ) (ns : List Node) → Reads (before ++ numbers ns) (length before) ns
unfolding nodes_from numbers
reads before [] = (refl, tt)
reads before (branch ∷ ns) = let r = reads before ns in (ap (λ l. branch ∷ l) r.0, (tt, r.1))
reads before (short ∷ ns) = let r = reads before ns in (ap (λ l. short ∷ l) r.0, (tt, r.1))
reads before (full j ∷ ns) = let r = reads before ns in (ap (λ l. full j ∷ l) r.0, (tt, r.1))
reads before (cycle c ∷ ns) =
    let more = numbers ns in
    let refs = before ++ (c ++ more) in
    let here : take (length c) (drop (length before) refs) ≡ c = ap (λ l. take (length c) l) (drop-append_seam before (c ++ more)) ∙ take-append_seam c more in
    let rest : Reads refs (length before + length c) ns = subst (λ at. Reads refs at ns) (length-append before c) (subst (λ (l : List ℕ). Reads l (length (before ++ c)) ns) (append_assoc before c more) (reads (before ++ c) ns)) in
    let room : length before + length c ≤ length refs = omega (arith, length-append before (c ++ more), length-append c more) in
    (ap (λ l. cycle l ∷ map (node_of refs) (nodes_from (length before + length c) ns)) here ∙ ap (λ l. cycle c ∷ l) rest.0, (room, rest.1))

-- ---- the nodes of lines

-- nodes that begin with a tree, whatever comes behind them, and whose lines these are
abbrev Nodes : (List Node → List Node → Type 0) → Items → Items → Type 0
Nodes W ls rest = (nodes : List Node) × (ls ≡ lines nodes ++ rest) × ((behind : List Node) → W (nodes ++ behind) behind)

each_nodes : (V : ℤ → Items → Items → Type 0) (W : ℤ → List Node → List Node → Type 0) → ((a : ℤ) (ls rest : Items) → V a ls rest → Nodes (W a) ls rest)
    → (as' : List ℤ) (ls rest : Items) → EachOf V as' ls rest → Nodes (EachTree W as') ls rest
each_nodes V W f [] ls rest e = ([], e, λ behind. refl)
each_nodes V W f (a ∷ as') ls rest e =
    let one = f a ls e.0 e.1 in
    let others = each_nodes V W f as' e.0 rest e.2 in
    let same : ls ≡ lines (one.0 ++ others.0) ++ rest =
    one.1 ∙ ap (λ (l : Items). lines one.0 ++ l) others.1 ∙ sym (append_assoc (lines one.0) (lines others.0) rest)
    ∙ ap (λ (l : Items). l ++ rest) (sym (map-append _ one.0 others.0)) in
    (one.0 ++ others.0, same, λ behind. (others.0 ++ behind, subst (λ (l : List Node). W a l (others.0 ++ behind)) (sym (append_assoc one.0 others.0 behind)) (one.2 (others.0 ++ behind)), others.2 behind))

nodes_of : (m : PlainMode) (r n : ℕ) (p : List ℤ) (ls rest : Items) → ValidLines m r n p ls rest → Nodes (ValidFrom m r n p) ls rest
nodes_of m r n p [] rest t = absurd t
nodes_of m r zero p (Some Branch ∷ ls) rest t = absurd t
nodes_of m r (suc n) p (Some Branch ∷ ls) rest t =
    let e = each_nodes (λ a. ValidLines m r n (p ++ a ∷ [])) (λ a. ValidFrom m r n (p ++ a ∷ [])) (λ a ks mid v. nodes_of m r n (p ++ a ∷ []) ks mid v) (alternatives m r p) ls rest t in
    (branch ∷ e.0, ap (λ (l : Items). Some Branch ∷ l) e.1, λ behind. e.2 behind)
nodes_of m r n p (Some Short ∷ ls) rest t = (short ∷ [], ap (λ (l : Items). Some Short ∷ l) t.1, λ behind. (short_is m r p t.0, refl))
nodes_of m r n p (Some (Full j) ∷ ls) rest t =
    let is = full_is m r p j t.0 in
    (full j ∷ [], ap (λ (l : Items). Some (Full j) ∷ l) t.1, λ behind. (is.0, is.1, is.2, refl))
nodes_of m r n p (Some (Cycle refs) ∷ ls) rest t = (cycle refs ∷ [], ap (λ (l : Items). Some (Cycle refs) ∷ l) t.1, λ behind. (negative_cycle_is m r p refs t.0, refl))
nodes_of m r n p (None ∷ ls) rest t = absurd t
nodes_of m r n p (Some other ∷ ls) rest t = absurd t

-- lines that stand for a tree have one
has_tree : (m : PlainMode) (r : ℕ) (ls rest : Items) → TreeStands m r ls rest → HasTree m r ls rest
has_tree m r ls rest t =
    let n = nodes_of m r (length (decisions m)) [] ls rest t in
    let w = reads [] n.0 in
    let tree : Tree = record { nodes = nodes_from 0 n.0; refs = numbers n.0 } in
    record {
      tree = tree;
      valid = record {
        stored = All-from_recursion (IsStored (numbers n.0)) (nodes_from 0 n.0) w.1;
        tree = subst (λ (l : List Node). ValidFrom m r (length (decisions m)) [] l []) (append-nil n.0 ∙ sym w.0) (n.2 []);
      };
      said = n.1 ∙ ap (λ (l : Items). l ++ rest) (ap lines (sym w.0) ∙ stored_lines (numbers n.0) (nodes_from 0 n.0));
    }

pub trees_are_valid : TreesAreValid
trees_are_valid m r ls rest = (
  λ t. has_tree m r ls rest t,
  λ h. subst (λ (l : Items). TreeStands m r l rest) (sym h.said) (trees_stand m r h.tree rest h.valid),
)
