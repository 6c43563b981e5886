-- Every tree can be stored
use Rattle.std.proofs.Common.{◌≡◌, ℕ, ◌+◌, ◌≤◌, List, [], ◌∷◌, ◌++◌, length, take, drop, map, refl, sym, ◌∙◌, ap, subst, arith, append_assoc, length-append}
use Rattle.std.specs.List.{AllByRecursion}
use Rattle.std.proofs.Math.Seq.{take-append_seam, drop-append_seam}
use Rattle.std.proofs.lemmas.List.Elements.{All-from_recursion}
use Rattle.sched_model.specs.declared.trees.TreeNode.{TreeNode}
use Rattle.sched_model.specs.declared.trees.TreeNode.TheVariants.{Branch, Short, Full, Cycle}
use Rattle.sched_model.specs.PlainMode.{PlainMode}
use Rattle.sched_model.specs.RefutationTree.{Node, branch, short, full, cycle, IsOwnTree, node_of, IsStored, OwnTree}

-- the nodes as they are stored, where the next cycle's numbers stand from this place on
stored : ℕ → List Node → List TreeNode
stored at [] = []
stored at (branch ∷ ns) = Branch ∷ stored at ns
stored at (short ∷ ns) = Short ∷ stored at ns
stored at (full j ∷ ns) = Full j ∷ stored at ns
stored at (cycle refs ∷ ns) = Cycle at (length refs) ∷ stored (at + length refs) ns

-- the numbers of all cycles
numbers : List Node → List ℕ
numbers [] = []
numbers (branch ∷ ns) = numbers ns
numbers (short ∷ ns) = numbers ns
numbers (full j ∷ ns) = numbers ns
numbers (cycle refs ∷ ns) = refs ++ numbers ns

abbrev Reads : List ℕ → ℕ → List Node → Type 0
Reads refs at ns = (map (node_of refs) (stored at ns) ≡ ns) × AllByRecursion (IsStored refs) (stored at ns)

reads : (before : List ℕ) (ns : List Node) → Reads (before ++ numbers ns) (length before) ns
unfolding stored numbers
reads before [] = (refl, tt)
reads before (branch ∷ ns) = let r = reads before ns in (ap (λ l. branch ∷ l) r.0, (tt, r.1))
reads before (short ∷ ns) = let r = reads before ns in (ap (λ l. short ∷ l) r.0, (tt, r.1))
reads before (full j ∷ ns) = let r = reads before ns in (ap (λ l. full j ∷ l) r.0, (tt, r.1))
reads before (cycle c ∷ ns) =
    let more = numbers ns in
    let refs = before ++ (c ++ more) in
    let here : take (length c) (drop (length before) refs) ≡ c = ap (λ l. take (length c) l) (drop-append_seam before (c ++ more)) ∙ take-append_seam c more in
    let rest : Reads refs (length before + length c) ns = subst (λ at. Reads refs at ns) (length-append before c) (subst (λ (l : List ℕ). Reads l (length (before ++ c)) ns) (append_assoc before c more) (reads (before ++ c) ns)) in
    let room : length before + length c ≤ length refs = omega (arith, length-append before (c ++ more), length-append c more) in
    (ap (λ l. cycle l ∷ map (node_of refs) (stored (length before + length c) ns)) here ∙ ap (λ l. cycle c ∷ l) rest.0, (room, rest.1))

pub own_tree_stored : (m : PlainMode) (r : ℕ) (nodes : List Node) → IsOwnTree m r nodes → (ts : List TreeNode) × (refs : List ℕ) × OwnTree m r ts refs
own_tree_stored m r nodes t =
    let w = reads [] nodes in (
      stored 0 nodes,
      numbers nodes,
      record {
        stored = All-from_recursion (IsStored (numbers nodes)) (stored 0 nodes) w.1;
        tree = subst (λ (l : List Node). IsOwnTree m r l) (sym w.0) t;
      },
    )
