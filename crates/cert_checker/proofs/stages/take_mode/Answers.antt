use Rattle.std.proofs.Common.{◌≡◌, ◌<◌, ◌≤◌, ℕ, List, Some, Ok, length, ap, subst, arith}
use Rattle.app_graph.specs.declared.mode_set.Mode.{Mode}
use Rattle.proof_tree.specs.PlanLines.{meaning}
use Rattle.proof_tree.specs.Reading.{mode_line}
use Rattle.cert_checker.specs.DraftReading.{doc_at}
use Rattle.cert_checker.specs.Refusals.{Fails}
use Rattle.cert_checker.specs.TreeStack.{line_at, behind_line}
use Rattle.cert_checker.proofs.Errors.{handed_on}
use Rattle.cert_checker.proofs.DocumentLaws.{name_goes, name_halts, end_goes, end_halts}
use Rattle.cert_checker.proofs.stages.take_mode.Goals as goal

pub returns-in_err-take_name-clause-err : goal.returns-in_err-take_name-clause-err
returns-in_err-take_name-clause-err c =
    let e = c.in_err-take_name.field-0.0 in
    let set = c.args.set.now in
    let item = meaning c.args.item.now in
    let less : c.args.mode < length set.modes = omega (arith, c.if-mode-as_slice.true, ap (λ (l : List Mode). length l) c.as_slice.ensures) in
    handed_on c.from_residual.result e _ c.from_residual.ensures.1 (λ rest.
    name_halts set c.args.mode (line_at c.args.line item rest) e less
    (subst (λ (k : ℕ). Fails e (mode_line (doc_at set k) (line_at c.args.line item rest) (Some item))) c.number_of.ensures (c.in_err-take_name.ensures.err rest)))

pub returns-then-mode-as_slice-clause-goes : goal.returns-then-mode-as_slice-clause-goes
returns-then-mode-as_slice-clause-goes c =
    let set = c.args.set.now in
    let item = meaning c.args.item.now in
    let less : c.args.mode < length set.modes = omega (arith, c.if-mode-as_slice.true, ap (λ (l : List Mode). length l) c.as_slice.ensures) in
    λ rest. name_goes set c.args.mode (line_at c.args.line item rest) (behind_line c.args.line rest) less
    (subst (λ (k : ℕ). mode_line (doc_at set k) (line_at c.args.line item rest) (Some item) ≡ Ok (tt, behind_line c.args.line rest)) c.number_of.ensures (c.in_ok-take_name.ensures.ok rest))

pub returns-in_err-take_end-clause-err : goal.returns-in_err-take_end-clause-err
returns-in_err-take_end-clause-err c =
    let e = c.in_err-take_end.field-0.0 in
    let set = c.args.set.now in
    let more : length set.modes ≤ c.args.mode = omega (arith, c.if-mode-as_slice.false, ap (λ (l : List Mode). length l) c.as_slice.ensures) in
    handed_on c.from_residual-in_err-take_end.result e _ c.from_residual-in_err-take_end.ensures.1 (λ rest.
    end_halts set c.args.mode (line_at c.args.line (meaning c.args.item.now) rest) e more (c.in_err-take_end.ensures.err rest))

pub returns-clause-goes : goal.returns-clause-goes
returns-clause-goes c =
    let set = c.args.set.now in
    let more : length set.modes ≤ c.args.mode = omega (arith, c.if-mode-as_slice.false, ap (λ (l : List Mode). length l) c.as_slice.ensures) in
    λ rest. end_goes set c.args.mode (line_at c.args.line (meaning c.args.item.now) rest) (behind_line c.args.line rest) more (c.in_ok-take_end.ensures.ok rest)
