use Rattle.std.proofs.Common.{ap, sym, List, map}
use Rattle.std.specs.List.{flat_map, zip}
use Rattle.std.proofs.lemmas.Result.{on_err_weaker}
use Rattle.app_graph.specs.declared.mode_set.Mode.{Mode}
use Rattle.proof_tree.specs.Items.{text_of}
use Rattle.proof_tree.specs.PlanText.{part_items}
use Rattle.proof_tree.proofs.WrittenLemmas.{on_err, on_ok_weaker, stops_in_first, stops_in_second, stops_at, adds_at, adds_second}
use Rattle.proof_tree.proofs.DocumentLemmas.{plan_parts}
use Rattle.proof_tree.proofs.document.write_plan.Goals as goal

pub returns-in_err-write_line-clause-err : goal.returns-in_err-write_line-clause-err
returns-in_err-write_line-clause-err c = on_err _ (stops_at (plan_parts c.args.set.now c.args.parts.now) (stops_in_first _ c.in_err-write_line.ensures.err))

pub returns-in_err-write_parts-clause-err : goal.returns-in_err-write_parts-clause-err
returns-in_err-write_parts-clause-err c =
    let parts = ap (λ (l : List Mode). flat_map text_of (map part_items (zip l c.args.parts.now))) (sym c.as_slice.ensures) in
    on_err _ (stops_at (plan_parts c.args.set.now c.args.parts.now)
    (stops_in_second c.args.out.now _ c.in_ok-write_line.ensures.ok (stops_in_first _ (stops_at parts c.in_err-write_parts.ensures.err))))

pub returns-clause-ok : goal.returns-clause-ok
returns-clause-ok c =
    let parts = ap (λ (l : List Mode). flat_map text_of (map part_items (zip l c.args.parts.now))) (sym c.as_slice.ensures) in
    on_ok_weaker c.write_line-2.result
    (λ e. adds_at c.args.out.now (plan_parts c.args.set.now c.args.parts.now)
    (adds_second c.args.out.now _ _ c.in_ok-write_line.ensures.ok (adds_second c.write_line.new.out _ _ (adds_at c.write_line.new.out parts c.in_ok-write_parts.ensures.ok) e)))
    c.write_line-2.ensures.ok

pub returns-clause-err : goal.returns-clause-err
returns-clause-err c =
    let parts = ap (λ (l : List Mode). flat_map text_of (map part_items (zip l c.args.parts.now))) (sym c.as_slice.ensures) in
    on_err_weaker c.write_line-2.result
    (λ s. stops_at (plan_parts c.args.set.now c.args.parts.now)
    (stops_in_second c.args.out.now _ c.in_ok-write_line.ensures.ok (stops_in_second c.write_line.new.out _ (adds_at c.write_line.new.out parts c.in_ok-write_parts.ensures.ok) s)))
    c.write_line-2.ensures.err
