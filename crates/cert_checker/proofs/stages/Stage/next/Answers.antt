use Rattle.std.proofs.Common.{◌≡◌, ℕ, Some, length, subst, sym, rules}
use Rattle.std.proofs.lemmas.Result.{IfErr-weaker}
use Rattle.proof_tree.specs.PlanLines.{meaning}
use Rattle.cert_checker.specs.declared.refused.Refused.TheVariants.{Grammar}
use Rattle.cert_checker.specs.declared.stages.Stage.{Stage}
use Rattle.cert_checker.specs.declared.stages.Stage.TheVariants.{Head, Mode, Nothing}
use Rattle.cert_checker.specs.DocumentStages.{Halts, Refutes, stage_due, document_due}
use Rattle.cert_checker.specs.TreeStack.{line_at}
use Rattle.cert_checker.proofs.Errors.{handed_on}
use Rattle.cert_checker.proofs.DocumentLaws.{head_halts, halts_refutes, past_end}
use Rattle.cert_checker.proofs.stages.Stage.next.Goals as goal

pub returns-in_err-take_head-in-Head-clause-err : goal.returns-in_err-take_head-in-Head-clause-err
returns-in_err-take_head-in-Head-clause-err c =
    let e = c.in_err-take_head-in-Head.field-0.0 in
    let set = c.args.set.now in
    let plans = c.args.plans.now.items in
    handed_on c.from_residual.result e _ c.from_residual.ensures.1 (λ rest.
    let at = line_at c.args.line (meaning c.args.item.now) rest in
    subst (λ (s : Stage). Refutes set e (document_due set plans s at)) (sym c.in-Head.is)
    (halts_refutes set plans Head at e c.requires.right (head_halts set (length plans) at e (c.in_err-take_head-in-Head.ensures.err rest))))

pub returns-in_err-take_mode-in-Mode-clause-err : goal.returns-in_err-take_mode-in-Mode-clause-err
returns-in_err-take_mode-in-Mode-clause-err c =
    let e = c.in_err-take_mode-in-Mode.field-0.0 in
    let set = c.args.set.now in
    let plans = c.args.plans.now.items in
    let k : c.len.result ≡ length plans = search rules in
    handed_on c.from_residual-in_err-take_mode-in-Mode.result e _ c.from_residual-in_err-take_mode-in-Mode.ensures.1 (λ rest.
    let at = line_at c.args.line (meaning c.args.item.now) rest in
    subst (λ (s : Stage). Refutes set e (document_due set plans s at)) (sym c.in-Mode.is)
    (halts_refutes set plans Mode at e c.requires.right (subst (λ (i : ℕ). Halts e (stage_due set i Mode at)) k (c.in_err-take_mode-in-Mode.ensures.err rest))))

pub returns-in-Within-clause-err : goal.returns-in-Within-clause-err
returns-in-Within-clause-err c =
    let set = c.args.set.now in
    let plans = c.args.plans.now.items in
    IfErr-weaker c.take_inside.result _ _ (λ e h rest.
    subst (λ (s : Stage). Refutes set e (document_due set plans s (line_at c.args.line (meaning c.args.item.now) rest))) (sym c.in-Within.is) (h rest)) c.take_inside.ensures.err

pub returns-in-Nothing-clause-err : goal.returns-in-Nothing-clause-err
returns-in-Nothing-clause-err c =
    let set = c.args.set.now in
    let plans = c.args.plans.now.items in
    let e = Grammar c.args.line in
    λ rest.
    let item = meaning c.args.item.now in
    let at = line_at c.args.line item rest in
    subst (λ (s : Stage). Refutes set e (document_due set plans s at)) (sym c.in-Nothing.is)
    (halts_refutes set plans Nothing at e c.requires.right (past_end set (length plans) c.args.line (Some item) rest))
