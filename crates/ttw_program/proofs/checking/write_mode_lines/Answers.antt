use Rattle.std.proofs.Common.{◌∙◌, ap, sym, arith, length, take, ◌++◌}
use Rattle.std.specs.List.{flat_map, zip}
use Rattle.std.proofs.lemmas.List.{length_push}
use Rattle.std.proofs.lemmas.Iterator.{YieldsList-from_slice, YieldsList-from_zip}
use Rattle.std.proofs.lemmas.Iterator.Consumers.{YieldsList-turn, YieldsList-end}
use Rattle.ttw_program.specs.Checks.{mode_line}
use Rattle.ttw_program.proofs.CheckAnswers.{text_more, text_whole}
use Rattle.ttw_program.proofs.checking.write_mode_lines.Goals as goal

pub loop-mode-preserved : goal.loop-mode-preserved
loop-mode-preserved c =
    let t = YieldsList-turn (YieldsList-from_zip (YieldsList-from_slice c.args.modes.now (cc)) (YieldsList-from_slice c.args.plans.now (cc))) c.loop-mode.yielded c.loop-mode.mode-iterator c.loop-mode.yielded_by c.next.result c.next.new.self (c.in-Some.mode, c.in-Some.plan) c.in-Some.is c.next.ensures.steps in
    text_more mode_line (zip c.args.modes.now c.args.plans.now) (length c.loop-mode.yielded) (c.in-Some.mode.now, c.in-Some.plan.now) _ c.loop-mode.out _ t.0 t.1 c.loop-mode.invariant c.in_ok-write_mode_line.ensures
    ∙ ap (λ n. c.args.out.now ++ flat_map mode_line (take n (zip c.args.modes.now c.args.plans.now))) (sym (length_push c.loop-mode.yielded _))

pub returns : goal.returns
returns c =
    let t = YieldsList-end (YieldsList-from_zip (YieldsList-from_slice c.args.modes.now (cc)) (YieldsList-from_slice c.args.plans.now (cc))) c.loop-mode.yielded c.loop-mode.mode-iterator c.loop-mode.yielded_by c.next.result c.next.new.self c.in-None.is c.next.ensures.steps in
    text_whole mode_line (zip c.args.modes.now c.args.plans.now) (length c.loop-mode.yielded) _ _ (omega (arith, t.1)) c.loop-mode.invariant
