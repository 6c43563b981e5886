use Rattle.std.proofs.Common.{refl, ap, length}
use Rattle.std.specs.List.{zip}
use Rattle.std.proofs.lemmas.List.{length_push}
use Rattle.std.proofs.lemmas.Iterator.{YieldsList-from_slice, YieldsList-from_zip}
use Rattle.std.proofs.lemmas.Iterator.Consumers.{YieldsList-turn, YieldsList-end}
use Rattle.proof_tree.specs.Items.{text_of}
use Rattle.proof_tree.specs.PlanText.{part_items}
use Rattle.proof_tree.proofs.WrittenLemmas.{on_err, goes_on_in_loop, ends_loop, stops_in_loop}
use Rattle.proof_tree.proofs.document.write_parts.Goals as goal

pub loop-mode-preserved : goal.loop-mode-preserved
loop-mode-preserved c =
    let t = YieldsList-turn (YieldsList-from_zip (YieldsList-from_slice c.args.modes.now (cc)) (YieldsList-from_slice c.args.parts.now (cc))) c.loop-mode.yielded c.loop-mode.mode-iterator c.loop-mode.yielded_by c.next.result c.next.new.self (c.in-Some.mode, c.in-Some.part) c.in-Some.is c.next.ensures.steps in
    goes_on_in_loop _ _ _ _ text_of part_items (zip c.args.modes.now c.args.parts.now) (length c.loop-mode.yielded) _ (c.in-Some.mode.now, c.in-Some.part.now) t (length_push c.loop-mode.yielded _) c.loop-mode.invariant refl c.in_ok-write_part.ensures.ok

pub returns-clause-ok : goal.returns-clause-ok
returns-clause-ok c =
    let t = YieldsList-end (YieldsList-from_zip (YieldsList-from_slice c.args.modes.now (cc)) (YieldsList-from_slice c.args.parts.now (cc))) c.loop-mode.yielded c.loop-mode.mode-iterator c.loop-mode.yielded_by c.next.result c.next.new.self c.in-None.is c.next.ensures.steps in
    ends_loop _ _ text_of part_items (zip c.args.modes.now c.args.parts.now) (length c.loop-mode.yielded) t.1 c.loop-mode.invariant

pub returns-in_err-write_part-clause-err : goal.returns-in_err-write_part-clause-err
returns-in_err-write_part-clause-err c =
    let t = YieldsList-turn (YieldsList-from_zip (YieldsList-from_slice c.args.modes.now (cc)) (YieldsList-from_slice c.args.parts.now (cc))) c.loop-mode.yielded c.loop-mode.mode-iterator c.loop-mode.yielded_by c.next.result c.next.new.self (c.in-Some.mode, c.in-Some.part) c.in-Some.is c.next.ensures.steps in
    on_err _ (stops_in_loop text_of part_items (zip c.args.modes.now c.args.parts.now) (length c.loop-mode.yielded) (c.in-Some.mode.now, c.in-Some.part.now) t.0 c.loop-mode.invariant (ap (λ p. text_of (part_items p)) t.1) c.in_err-write_part.ensures.err)
