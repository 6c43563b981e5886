use Rattle.std.proofs.Common.{◌≡◌, sym, ap, subst, ◌∙◌}
use Rattle.std.proofs.lemmas.Result.{IfErr-weaker, IfOk-weaker}
use Rattle.proof_tree.specs.Items.{Item, Branch}
use Rattle.proof_tree.specs.PlanLines.{meaning}
use Rattle.cert_checker.specs.Refusals.{Fails}
use Rattle.cert_checker.specs.TreeStack.{walk_due, walk_leaf, line_at, behind_line}
use Rattle.cert_checker.proofs.Walks.{branch_due}
use Rattle.cert_checker.proofs.walk.Walk.take.Goals as goal

pub returns-in-Branch-clause-goes : goal.returns-in-Branch-clause-goes
returns-in-Branch-clause-goes c =
    let is : meaning c.args.item.now ≡ Branch = ap meaning c.in-Branch.is in
    IfOk-weaker c.branch-self.result _ _ (λ due h rest. ap (λ (i : Item). walk_due c.args.mode c.args.self.now (line_at c.args.line i rest)) is ∙ branch_due c.args.self.now c.args.mode c.args.line rest ∙ sym (h c.args.mode (behind_line c.args.line rest))) c.branch-self.ensures.goes

pub returns-in-Branch-clause-err : goal.returns-in-Branch-clause-err
returns-in-Branch-clause-err c =
    let is : meaning c.args.item.now ≡ Branch = ap meaning c.in-Branch.is in
    IfErr-weaker c.branch-self.result _ _ (λ e h rest. subst (Fails e) (sym (ap (λ (i : Item). walk_due c.args.mode c.args.self.now (line_at c.args.line i rest)) is ∙ branch_due c.args.self.now c.args.mode c.args.line rest)) (h c.args.mode (behind_line c.args.line rest))) c.branch-self.ensures.err

pub returns-in-Short-clause-err : goal.returns-in-Short-clause-err
returns-in-Short-clause-err c =
    rw c.in-Short.is (IfErr-weaker c.leaf.result _ _ (λ e h rest. subst (Fails e) (ap (λ b. walk_leaf b c.args.line c.args.mode c.args.self.now (behind_line c.args.line rest)) c.is_short-holds.ensures) (h c.args.mode (behind_line c.args.line rest))) c.leaf.ensures.err)

pub returns-in-Full-clause-err : goal.returns-in-Full-clause-err
returns-in-Full-clause-err c =
    rw c.in-Full.is (IfErr-weaker c.leaf-in-Full.result _ _ (λ e h rest. subst (Fails e) (ap (λ b. walk_leaf b c.args.line c.args.mode c.args.self.now (behind_line c.args.line rest)) c.is_full-holds.ensures) (h c.args.mode (behind_line c.args.line rest))) c.leaf-in-Full.ensures.err)

pub returns-in-Cycle-clause-err : goal.returns-in-Cycle-clause-err
returns-in-Cycle-clause-err c =
    rw c.in-Cycle.is (IfErr-weaker c.leaf-in-Cycle.result _ _ (λ e h rest. subst (Fails e) (ap (λ b. walk_leaf b c.args.line c.args.mode c.args.self.now (behind_line c.args.line rest)) c.is_cycle-holds.ensures) (h c.args.mode (behind_line c.args.line rest))) c.leaf-in-Cycle.ensures.err)
