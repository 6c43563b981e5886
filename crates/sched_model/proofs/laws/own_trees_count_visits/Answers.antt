use Rattle.std.proofs.Common.{◌≡◌, [], List, length, map, subst, arith}
use Rattle.std.proofs.lemmas.List.{length-map}
use Rattle.sched_model.specs.ConstraintProblem.{decisions}
use Rattle.sched_model.specs.SearchCost.{Visited}
use Rattle.sched_model.specs.RefutationTree.{Node, node_of, IsOwnTree}
use Rattle.sched_model.proofs.OwnTrees.{tree_count}
use Rattle.sched_model.proofs.laws.own_trees_count_visits.Goals as goal

pub returns : goal.returns
returns c = λ m r.
    let count : (nodes : List Node) → IsOwnTree m r nodes → Visited m r (length nodes) = λ nodes t.
    let w = tree_count m r (length (decisions m)) [] nodes [] t in
    subst (Visited m r) (let e : w.0 ≡ length nodes = omega (arith, w.2) in e) w.1 in
    (count, λ nodes refs t. subst (Visited m r) (length-map nodes (node_of refs)) (count (map (node_of refs) nodes) t.tree))
