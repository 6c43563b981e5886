use Rattle.std.proofs.Common.{arith, ap, ℕ, length}
use Rattle.sched_model.specs.declared.trees.TreeNode.TheVariants.{Branch}
use Rattle.proof_tree.specs.Items.{line_of}
use Rattle.proof_tree.specs.PlanText.{stored_item}
use Rattle.proof_tree.proofs.WrittenLemmas.{on_err, stops_in_loop}
use Rattle.proof_tree.proofs.document.write_tree.Goals as goal

pub returns-in_err-write_node-clause-err : goal.returns-in_err-write_node-clause-err
returns-in_err-write_node-clause-err c =
    on_err _ (stops_in_loop line_of (stored_item c.args.tree.now.refs) c.args.tree.now.nodes c.loop-node.node-index Branch (omega (arith, ap {B = ℕ} length c.as_slice-node-items.ensures)) c.loop-node.invariant (cc) c.in_err-write_node.ensures.err)
