use Rattle.cert_checker.specs.TreeStack.{line_at}
use Rattle.proof_tree.specs.PlanLines.{meaning}
use Rattle.cert_checker.proofs.Errors.{handed_on, fails_with}
use Rattle.cert_checker.proofs.Modes.{node_fails}
use Rattle.cert_checker.proofs.counts.take_node.Goals as goal

pub returns-in_err-take-clause-err : goal.returns-in_err-take-clause-err
returns-in_err-take-clause-err c =
    let e = c.in_err-take.field-0.0 in
    handed_on c.from_residual.result e _ c.from_residual.ensures.1 (λ d rest.
    fails_with e _ _ (λ f r. node_fails c.args.mode d c.args.walk.now (line_at c.args.line (meaning c.args.item.now) rest) f r) (c.in_err-take.ensures.err rest))
