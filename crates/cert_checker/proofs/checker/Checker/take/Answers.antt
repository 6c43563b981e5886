use Rattle.std.proofs.Common.{◌+◌, ◌∙◌, ◌∷◌, length, subst, sym}
use Rattle.std.specs.Prelude.{Some}
use Rattle.proof_tree.specs.PlanLines.{meaning}
use Rattle.cert_checker.specs.declared.refused.Refused.{Refused}
use Rattle.cert_checker.specs.DocumentLines.{items_left}
use Rattle.cert_checker.specs.DocumentStages.{Refutes}
use Rattle.cert_checker.specs.Machine.{leads}
use Rattle.cert_checker.proofs.Errors.{handed_on}
use Rattle.cert_checker.proofs.Machines.{line_leads, line_refutes}
use Rattle.cert_checker.proofs.checker.Checker.take.Goals as goal

pub returns-in_err-item-clause-err : goal.returns-in_err-item-clause-err
returns-in_err-item-clause-err c =
    let set = c.args.set.now in
    let bytes = c.args.bytes.now in
    handed_on c.from_residual.result c.in_err-item.field-0.0 _ c.from_residual.ensures.1
    (λ rest. subst (λ (e : Refused). Refutes set e (leads set c.args.self.now (bytes ∷ rest))) (sym c.in_err-item.ensures.err)
    (line_refutes set c.args.self.now bytes rest c.requires.ready c.in_err-item.ensures.none))

pub returns-in_err-take-clause-err : goal.returns-in_err-take-clause-err
returns-in_err-take-clause-err c =
    let set = c.args.set.now in
    let bytes = c.args.bytes.now in
    let e = c.in_err-take.field-0.0 in
    let end = c.args.self.now.place + length bytes in
    handed_on c.from_residual-in_err-take.result e _ c.from_residual-in_err-take.ensures.1
    (λ rest. subst (Refutes set e) (sym (line_leads set c.args.self.now bytes rest (Some (meaning c.in_ok-item.item)) c.in_ok-item.ensures.ok))
    (c.in_err-take.ensures.err (items_left end rest)))

pub returns-clause-leads : goal.returns-clause-leads
returns-clause-leads c =
    let set = c.args.set.now in
    let bytes = c.args.bytes.now in
    let end = c.args.self.now.place + length bytes in
    λ rest. line_leads set c.args.self.now bytes rest (Some (meaning c.in_ok-item.item)) c.in_ok-item.ensures.ok ∙ c.in_ok-take.ensures.goes (items_left end rest)
