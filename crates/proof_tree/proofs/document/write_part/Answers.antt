use Rattle.std.proofs.Common.{ap, sym, List, ℕ, map}
use Rattle.std.proofs.lemmas.Result.{on_err_weaker}
use Rattle.proof_tree.specs.Items.{ModeNamed, line_of, text_of}
use Rattle.proof_tree.specs.PlanText.{refuted_items}
use Rattle.proof_tree.specs.declared.tree.Tree.{Tree}
use Rattle.std.specs.List.{flat_map, enumerate_from}
use Rattle.proof_tree.proofs.WrittenLemmas.{on_err, on_ok_weaker, stops_in_first, stops_in_second, stops_at, adds_at, adds_second}
use Rattle.proof_tree.proofs.DocumentLemmas.{part_parts}
use Rattle.proof_tree.proofs.document.write_part.Goals as goal

pub returns-in_err-write_line-clause-err : goal.returns-in_err-write_line-clause-err
returns-in_err-write_line-clause-err c =
    let first = ap (λ (n : List ℕ). line_of (ModeNamed n)) (sym c.as_bytes.ensures) in
    on_err _ (stops_at (part_parts c.args.mode.now c.args.part.now) (stops_in_first _ (stops_at first c.in_err-write_line.ensures.err)))

pub returns-in_err-write_trees-clause-err : goal.returns-in_err-write_trees-clause-err
returns-in_err-write_trees-clause-err c =
    let first = ap (λ (n : List ℕ). line_of (ModeNamed n)) (sym c.as_bytes.ensures) in
    let trees = ap (λ (l : List Tree). flat_map text_of (map refuted_items (enumerate_from 1 l))) (sym c.as_slice.ensures) in
    on_err _ (stops_at (part_parts c.args.mode.now c.args.part.now)
    (stops_in_second c.args.out.now _ (adds_at c.args.out.now first c.in_ok-write_line.ensures.ok) (stops_in_first _ (stops_at trees c.in_err-write_trees.ensures.err))))

pub returns-clause-ok : goal.returns-clause-ok
returns-clause-ok c =
    let first = ap (λ (n : List ℕ). line_of (ModeNamed n)) (sym c.as_bytes.ensures) in
    let trees = ap (λ (l : List Tree). flat_map text_of (map refuted_items (enumerate_from 1 l))) (sym c.as_slice.ensures) in
    on_ok_weaker c.write_answer.result
    (λ e. adds_at c.args.out.now (part_parts c.args.mode.now c.args.part.now)
    (adds_second c.args.out.now _ _ (adds_at c.args.out.now first c.in_ok-write_line.ensures.ok) (adds_second c.write_line.new.out _ _ (adds_at c.write_line.new.out trees c.in_ok-write_trees.ensures.ok) e)))
    c.write_answer.ensures.ok

pub returns-clause-err : goal.returns-clause-err
returns-clause-err c =
    let first = ap (λ (n : List ℕ). line_of (ModeNamed n)) (sym c.as_bytes.ensures) in
    let trees = ap (λ (l : List Tree). flat_map text_of (map refuted_items (enumerate_from 1 l))) (sym c.as_slice.ensures) in
    on_err_weaker c.write_answer.result
    (λ s. stops_at (part_parts c.args.mode.now c.args.part.now)
    (stops_in_second c.args.out.now _ (adds_at c.args.out.now first c.in_ok-write_line.ensures.ok) (stops_in_second c.write_line.new.out _ (adds_at c.write_line.new.out trees c.in_ok-write_trees.ensures.ok) s)))
    c.write_answer.ensures.err
