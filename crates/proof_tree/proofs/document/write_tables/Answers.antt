use Rattle.std.proofs.Common.{arith, refl, ap, ◌∙◌, ℕ, ◌+◌, List}
use Rattle.std.specs.List.{enumerate_from}
use Rattle.std.proofs.lemmas.List.FromFn.{length-enumerate_from}
use Rattle.proof_tree.specs.Items.{line_of}
use Rattle.proof_tree.specs.Names.{messages_in}
use Rattle.proof_tree.specs.PlanText.{table_item}
use Rattle.proof_tree.proofs.WrittenLemmas.{on_err, goes_on_in_loop, ends_loop, stops_in_loop}
use Rattle.proof_tree.proofs.DocumentLemmas.{at_place}
use Rattle.proof_tree.proofs.document.write_tables.Goals as goal

pub loop-at-preserved : goal.loop-at-preserved
loop-at-preserved c =
    let t = at_place c.args.tables.now c.loop-at.at c.index-tables-at.result (omega arith) c.index-tables-at.is in
    goes_on_in_loop _ _ _ _ line_of (table_item (messages_in c.args.apps.now)) (enumerate_from 1 c.args.tables.now) c.loop-at.at _ (c.loop-at.at + 1, c.index-tables-at.result) t refl c.loop-at.invariant (ap (λ (l : List ℕ). line_of (table_item (messages_in c.args.apps.now) (c.loop-at.at + 1, l))) c.as_slice-numbers.ensures) c.in_ok-write_line.ensures.ok

pub returns-clause-ok : goal.returns-clause-ok
returns-clause-ok c =
    ends_loop _ _ line_of (table_item (messages_in c.args.apps.now)) (enumerate_from 1 c.args.tables.now) c.loop-at.at (omega (arith, length-enumerate_from 1 c.args.tables.now)) c.loop-at.invariant

pub returns-in_err-write_line-clause-err : goal.returns-in_err-write_line-clause-err
returns-in_err-write_line-clause-err c =
    let t = at_place c.args.tables.now c.loop-at.at c.index-tables-at.result (omega arith) c.index-tables-at.is in
    on_err _ (stops_in_loop line_of (table_item (messages_in c.args.apps.now)) (enumerate_from 1 c.args.tables.now) c.loop-at.at (c.loop-at.at + 1, c.index-tables-at.result) t.0 c.loop-at.invariant ((ap (λ (l : List ℕ). line_of (table_item (messages_in c.args.apps.now) (c.loop-at.at + 1, l))) c.as_slice-numbers.ensures) ∙ ap (λ p. line_of ((table_item (messages_in c.args.apps.now)) p)) t.1) c.in_err-write_line.ensures.err)
