use Rattle.std.proofs.Common.{◌≡◌, ℕ, Ok, length, subst, rules}
use Rattle.proof_tree.specs.Accepting.{IsRight}
use Rattle.proof_tree.specs.PlanLines.{meaning}
use Rattle.cert_checker.specs.DraftReading.{doc_at}
use Rattle.cert_checker.specs.declared.counts.Next.{Next}
use Rattle.cert_checker.specs.ModeReading.{Follows, inside_due, now_due}
use Rattle.cert_checker.specs.Refusals.{Fails}
use Rattle.cert_checker.specs.DocumentStages.{BreaksSo}
use Rattle.cert_checker.specs.declared.stages.Stage.TheVariants.{Within}
use Rattle.cert_checker.specs.TreeStack.{line_at, behind_line}
use Rattle.cert_checker.proofs.Errors.{handed_on}
use Rattle.cert_checker.proofs.DocumentLaws.{within_halts, halts_refutes, plan_right, plan_breaks}
use Rattle.cert_checker.proofs.stages.take_inside.Goals as goal

pub returns-in_err-take-clause-err : goal.returns-in_err-take-clause-err
returns-in_err-take-clause-err c =
    let e = c.in_err-take.field-0.0 in
    let set = c.args.set.now in
    let plans = c.args.plans.now.items in
    let k : c.number_of-mode.result ≡ length plans = search rules in
    handed_on c.from_residual.result e _ c.from_residual.ensures.1 (λ rest.
    let at = line_at c.args.line (meaning c.args.item.now) rest in
    halts_refutes set plans (Within c.args.inside.now) at e c.requires.right
    (within_halts set (length plans) c.args.inside.now at e (subst (λ (i : ℕ). Fails e (inside_due i (doc_at set i) c.args.inside.now at)) k (c.in_err-take.ensures.err rest))))

pub returns-in_err-check_plan-in-Plan-clause-err : goal.returns-in_err-check_plan-in-Plan-clause-err
returns-in_err-check_plan-in-Plan-clause-err c =
    let e = c.in_err-check_plan-in-Plan.field-0.0 in
    let set = c.args.set.now in
    let plans = c.args.plans.now.items in
    let p = c.in-Plan.plan in
    let k : c.number_of-mode.result ≡ length plans = search rules in
    let follows = subst (λ (n : Next). Follows c.number_of-mode.result (doc_at set c.number_of-mode.result) c.args.line (λ rest. inside_due c.number_of-mode.result (doc_at set c.number_of-mode.result) c.args.inside.now (line_at c.args.line (meaning c.args.item.now) rest)) (now_due c.take.new.self n)) c.in-Plan.is c.in_ok-take.ensures.ok in
    handed_on c.from_residual-in_err-check_plan-in-Plan.result e _ c.from_residual-in_err-check_plan-in-Plan.ensures.1 (λ rest.
    let at = line_at c.args.line (meaning c.args.item.now) rest in
    let to = behind_line c.args.line rest in
    plan_breaks set plans p c.args.inside.now at to e c.requires.right c.requires.stage.0
    (subst (λ (i : ℕ). inside_due i (doc_at set i) c.args.inside.now at ≡ Ok (p, to)) k (follows.1 rest))
    (subst (λ (i : ℕ). BreaksSo i (doc_at set i) p e) k c.in_err-check_plan-in-Plan.ensures.err))

pub returns-in_ok-push-in-Plan-clause-right : goal.returns-in_ok-push-in-Plan-clause-right
returns-in_ok-push-in-Plan-clause-right c =
    let set = c.args.set.now in
    let plans = c.args.plans.now.items in
    let p = c.in-Plan.plan in
    let k : c.number_of-mode.result ≡ length plans = search rules in
    plan_right set plans c.push.new.self.items p c.requires.right c.requires.stage.0
    (subst (λ (i : ℕ). IsRight (doc_at set i) p) k c.in_ok-check_plan-in-Plan.ensures.ok) c.in_ok-push-in-Plan.ensures.items
