use Rattle.std.proofs.Common.{◌≡◌, ℕ, zero, suc, ◌+◌, ◌-◌, ◌≤◌, List, [], ◌∷◌, length, map, Option, Some, None, subst, arith}
use Rattle.sched_model.specs.declared.schedule.Schedule.{Schedule}
use Rattle.sched_model.specs.PlainMode.{PlainMode}
use Rattle.sched_model.specs.Laws.{OwnTreesAreValid, TreesShowFewest, PrintedIsRight}
use Rattle.sched_model.specs.RefutationTree.{Node, node_of, IsTree, OwnTree}
use Rattle.sched_model.specs.ValidMode.{IsValid}
use Rattle.proof_tree.specs.declared.tree.Tree.{Tree}
use Rattle.proof_tree.specs.OwnDocument.{OwnTreesFrom, OwnAnswer}
use Rattle.planner.specs.Plans.{IsBest}
use Rattle.planner.proofs.laws.plans_are_best.Goals as goal

module _ (valid : OwnTreesAreValid) (m : PlainMode) where
  nodes_of : (r : ℕ) (tree : Tree) → OwnTree m r tree.nodes tree.refs → (nodes : List Node) × IsTree m r nodes
  nodes_of r tree own = (map (node_of tree.refs) tree.nodes, ((valid m r).1 tree.nodes tree.refs own).tree)

  -- the tree for r + k rounds
  tree_of : (r k : ℕ) (trees : List Tree) → OwnTreesFrom m r trees → k + 1 ≤ length trees → (nodes : List Node) × IsTree m (r + k) nodes
  tree_of r k [] t l = absurd (omega (arith, l))
  tree_of r zero (tree ∷ trees) t l = subst (λ q. (nodes : List Node) × IsTree m q nodes) (let e : r ≡ r + 0 = omega arith in e) (nodes_of r tree t.0)
  tree_of r (suc k) (tree ∷ trees) t l = subst (λ q. (nodes : List Node) × IsTree m q nodes) (let e : suc r + k ≡ r + suc k = omega arith in e) (tree_of (suc r) k trees t.2 (omega (arith, l)))

  tree_for : (trees : List Tree) → OwnTreesFrom m 1 trees → (q : ℕ) → 1 ≤ q → q ≤ length trees → (nodes : List Node) × IsTree m q nodes
  tree_for trees t q some le = subst (λ x. (nodes : List Node) × IsTree m x nodes) (let e : 1 + (q - 1) ≡ q = omega (arith, some) in e) (tree_of 1 (q - 1) trees t (omega (arith, some, le)))

  best_of : TreesShowFewest → PrintedIsRight → IsValid m → (trees : List Tree) (answer : Option Schedule) → OwnTreesFrom m 1 trees → OwnAnswer m (length trees + 1) answer → IsBest m (length trees + 1) answer
  best_of show printed ok trees None t e = (show m ok).2 (λ q some le. tree_for trees t q some (omega (arith, le, e)))
  best_of show printed ok trees (Some s) t a =
      let right = (printed m (length trees + 1)).0 s ok (omega arith) a.1 in
      (right, (show m ok).1 (length trees + 1) s right (λ q some less. tree_for trees t q some (omega (arith, less))))

pub returns : goal.returns
returns c = λ m ok trees answer t a. best_of c.own_trees_are_valid.ensures m c.trees_show_fewest.ensures c.printed_is_right.ensures ok trees answer t a
