use Rattle.std.proofs.Common.{map}
use Rattle.sched_model.specs.RefutationTree.{node_of}
use Rattle.sched_model.proofs.Refutations.{own_tree_valid}
use Rattle.sched_model.proofs.laws.own_trees_are_valid.Goals as goal

pub returns : goal.returns
returns c = λ m r. (λ nodes t. own_tree_valid m r nodes t, λ nodes refs t. record { stored = t.stored; tree = own_tree_valid m r (map (node_of refs) nodes) t.tree })
