use Rattle.std.proofs.Common.{subst, sym}
use Rattle.std.proofs.lemmas.Result.{IfErr-weaker, IfOk-weaker}
use Rattle.proof_tree.specs.PlanLines.{meaning}
use Rattle.cert_checker.specs.declared.counts.Inside.{Inside}
use Rattle.cert_checker.specs.declared.counts.Inside.TheVariants.{Node}
use Rattle.cert_checker.specs.DraftReading.{doc_at}
use Rattle.cert_checker.specs.ModeReading.{Follows, IsInside, inside_due, now_due}
use Rattle.cert_checker.specs.Refusals.{Fails}
use Rattle.cert_checker.specs.TreeStack.{line_at}
use Rattle.cert_checker.proofs.counts.Inside.take.Goals as goal

pub returns-in-Count-clause-err : goal.returns-in-Count-clause-err
returns-in-Count-clause-err c =
    let d = doc_at c.args.set.now c.args.mode in
    IfErr-weaker c.take_count.result _ _ (λ e h rest. subst (λ (i : Inside). Fails e (inside_due c.args.mode d i (line_at c.args.line (meaning c.args.item.now) rest))) (sym c.in-Count.is) (h rest)) c.take_count.ensures.err

pub returns-in-Node-clause-ok : goal.returns-in-Node-clause-ok
returns-in-Node-clause-ok c =
    let d = doc_at c.args.set.now c.args.mode in
    IfOk-weaker c.take_node.result _ _ (λ next h. subst (λ (i : Inside). Follows c.args.mode d c.args.line (λ rest. inside_due c.args.mode d i (line_at c.args.line (meaning c.args.item.now) rest)) (now_due (Node c.take_node.new.walk) next)) (sym c.in-Node.is)
    (h d (subst (IsInside d) c.in-Node.is c.requires.inside))) c.take_node.ensures.ok

pub returns-in-Node-clause-err : goal.returns-in-Node-clause-err
returns-in-Node-clause-err c =
    let d = doc_at c.args.set.now c.args.mode in
    IfErr-weaker c.take_node.result _ _ (λ e h rest. subst (λ (i : Inside). Fails e (inside_due c.args.mode d i (line_at c.args.line (meaning c.args.item.now) rest))) (sym c.in-Node.is) (h d rest)) c.take_node.ensures.err

pub returns-in-Starts-clause-err : goal.returns-in-Starts-clause-err
returns-in-Starts-clause-err c =
    let d = doc_at c.args.set.now c.args.mode in
    IfErr-weaker c.take_starts.result _ _ (λ e h rest. subst (λ (i : Inside). Fails e (inside_due c.args.mode d i (line_at c.args.line (meaning c.args.item.now) rest))) (sym c.in-Starts.is) (h rest)) c.take_starts.ensures.err
