use Rattle.std.proofs.Common.{arith, refl, ap, ◌+◌}
use Rattle.std.specs.List.{enumerate_from}
use Rattle.std.proofs.lemmas.List.FromFn.{length-enumerate_from}
use Rattle.proof_tree.specs.Items.{text_of}
use Rattle.proof_tree.specs.PlanText.{refuted_items}
use Rattle.proof_tree.proofs.WrittenLemmas.{on_err, goes_on_in_loop, ends_loop, stops_in_loop}
use Rattle.proof_tree.proofs.DocumentLemmas.{at_place}
use Rattle.proof_tree.proofs.document.write_trees.Goals as goal

pub loop-at-preserved : goal.loop-at-preserved
loop-at-preserved c =
    let t = at_place c.args.trees.now c.loop-at.at c.index-trees-at.result (omega arith) c.index-trees-at.is in
    goes_on_in_loop _ _ _ _ text_of refuted_items (enumerate_from 1 c.args.trees.now) c.loop-at.at _ (c.loop-at.at + 1, c.index-trees-at.result) t refl c.loop-at.invariant refl c.in_ok-write_refuted.ensures.ok

pub returns-clause-ok : goal.returns-clause-ok
returns-clause-ok c =
    ends_loop _ _ text_of refuted_items (enumerate_from 1 c.args.trees.now) c.loop-at.at (omega (arith, length-enumerate_from 1 c.args.trees.now)) c.loop-at.invariant

pub returns-in_err-write_refuted-clause-err : goal.returns-in_err-write_refuted-clause-err
returns-in_err-write_refuted-clause-err c =
    let t = at_place c.args.trees.now c.loop-at.at c.index-trees-at.result (omega arith) c.index-trees-at.is in
    on_err _ (stops_in_loop text_of refuted_items (enumerate_from 1 c.args.trees.now) c.loop-at.at (c.loop-at.at + 1, c.index-trees-at.result) t.0 c.loop-at.invariant (ap (λ p. text_of (refuted_items p)) t.1) c.in_err-write_refuted.ensures.err)
