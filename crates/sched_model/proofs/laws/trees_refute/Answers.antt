use Rattle.std.proofs.Common.{map}
use Rattle.sched_model.specs.RefutationTree.{node_of}
use Rattle.sched_model.proofs.Backward.{full_open, made}
use Rattle.sched_model.proofs.Refutations.{tree_refutes}
use Rattle.sched_model.proofs.laws.trees_refute.Goals as goal

pub returns : goal.returns
returns c = λ m r ok. (
  λ nodes t s is. tree_refutes m r nodes t (made m r s ok is).0 (full_open m r s ok is),
  λ nodes refs t s is. tree_refutes m r (map (node_of refs) nodes) t.tree (made m r s ok is).0 (full_open m r s ok is),
)
