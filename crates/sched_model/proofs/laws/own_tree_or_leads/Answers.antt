use Rattle.std.proofs.Common.{[], List, length, map, ⊎_elim}
use Rattle.sched_model.specs.ConstraintProblem.{decisions}
use Rattle.sched_model.specs.SearchCost.{LeadsAt}
use Rattle.sched_model.specs.RefutationTree.{Node, node_of, IsOwnTree}
use Rattle.sched_model.proofs.Refutations.{own_tree_valid}
use Rattle.sched_model.proofs.OwnTrees.{own_tree_or_leads, tree_excludes}
use Rattle.sched_model.proofs.Stored.{own_tree_stored}
use Rattle.sched_model.proofs.laws.own_tree_or_leads.Goals as goal

pub returns : goal.returns
returns c = λ m r ok some.
    let one = own_tree_or_leads m r ok some in
    let excludes = λ (nodes : List Node) (t : IsOwnTree m r nodes) (l : LeadsAt m r). tree_excludes m r (length (decisions m)) [] nodes [] (own_tree_valid m r nodes t) l in
    let exists : ¬ (LeadsAt m r) → (nodes : List Node) × IsOwnTree m r nodes = λ no. ⊎_elim (λ (t : (nodes : List Node) × IsOwnTree m r nodes). t) (λ (l : LeadsAt m r). absurd (no l)) one in (
      one,
      (λ t. excludes t.0 t.1, exists),
      (λ t. excludes (map (node_of t.1) t.0) t.2.tree, λ no. let t = exists no in own_tree_stored m r t.0 t.1),
    )
