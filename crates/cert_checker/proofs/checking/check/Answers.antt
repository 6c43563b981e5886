use Rattle.std.proofs.Common.{rules, ◌≡◌, List, ℕ, [], length, drop, ap, ◌∙◌, arith}
use Rattle.std.proofs.lemmas.List.{drop_all}
use Rattle.std.proofs.lemmas.Result.{IfErr-weaker, IfOk-weaker}
use Rattle.ttw_text.specs.Lines.{lines}
use Rattle.cert_checker.specs.Machine.{leads}
use Rattle.cert_checker.proofs.Errors.{handed_on}
use Rattle.cert_checker.proofs.Unread.{refuses_from}
use Rattle.cert_checker.proofs.checking.check.Goals as goal

pub loop-bytes-init : goal.loop-bytes-init
loop-bytes-init c = record {
  within = omega arith;
  ready = c.begin-checker.ensures.ready c.args.set.now;
  goes = c.begin-checker.ensures.leads c.args.set.now c.args.text.now;
}

pub loop-bytes-preserved : goal.loop-bytes-preserved
loop-bytes-preserved c = record {
  within = c.in-Some.ensures.within;
  ready = c.in_ok-take.ensures.ready;
  goes = c.loop-bytes.invariant.goes ∙ ap (leads c.args.set.now c.loop-bytes.checker) c.in-Some.ensures.line ∙ c.in_ok-take.ensures.leads (lines (drop c.in-Some.next c.args.text.now));
}

pub returns-in_err-take-clause-refused : goal.returns-in_err-take-clause-refused
returns-in_err-take-clause-refused c =
    let set = c.args.set.now in
    let text = c.args.text.now in
    let l = c.loop-bytes in
    let e = c.in_err-take.field-0.0 in
    let goes = l.invariant.goes ∙ ap (leads set l.checker) c.in-Some.ensures.line in
    handed_on c.from_residual.result e _ c.from_residual.ensures.1 (refuses_from set text _ e goes (c.in_err-take.ensures.err (lines (drop c.in-Some.next text))))

-- nothing is left of the text
left_none : (text : List ℕ) (from : ℕ) → from ≡ length text → lines (drop from text) ≡ []
left_none text from done = ap lines (drop_all from text (omega (arith, done)))

pub returns-clause-accepted : goal.returns-clause-accepted
returns-clause-accepted c =
    let set = c.args.set.now in
    let text = c.args.text.now in
    let l = c.loop-bytes in
    let done : l.from ≡ length text = search rules in
    let goes = l.invariant.goes ∙ ap (leads set l.checker) (left_none text l.from done) in
    IfOk-weaker c.end.result _ _ (λ a accepts. accepts set text l.invariant.ready goes) c.end.ensures.accepted

pub returns-clause-best : goal.returns-clause-best
returns-clause-best c =
    let set = c.args.set.now in
    let text = c.args.text.now in
    let l = c.loop-bytes in
    let done : l.from ≡ length text = search rules in
    let goes = l.invariant.goes ∙ ap (leads set l.checker) (left_none text l.from done) in
    IfOk-weaker c.end.result _ _ (λ a accepts. c.accepted_are_best.ensures set text a.modes c.requires (accepts set text l.invariant.ready goes)) c.end.ensures.accepted

pub returns-clause-refused : goal.returns-clause-refused
returns-clause-refused c =
    let set = c.args.set.now in
    let text = c.args.text.now in
    let l = c.loop-bytes in
    let done : l.from ≡ length text = search rules in
    let goes = l.invariant.goes ∙ ap (leads set l.checker) (left_none text l.from done) in
    IfErr-weaker c.end.result _ _ (λ e refutes. refuses_from set text _ e goes (refutes set l.invariant.ready)) c.end.ensures.err
