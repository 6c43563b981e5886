use Rattle.std.proofs.Common.{◌≡◌, ◌<◌, ℕ, List, [], length, get_or, sym, ap, ◌∙◌, arith, rules}
use Rattle.cert_checker.specs.TreeStack.{line_at}
use Rattle.proof_tree.specs.PlanLines.{meaning}
use Rattle.cert_checker.proofs.Errors.{handed_on, fails_with}
use Rattle.cert_checker.proofs.Drafts.{task_fails}
use Rattle.cert_checker.proofs.draft.Draft.take_task.Goals as goal

pub returns-in_err-offset-clause-err : goal.returns-in_err-offset-clause-err
returns-in_err-offset-clause-err c =
    let s = c.args.self.now in
    let e = c.in_err-offset.field-0.0 in
    handed_on c.from_residual.result e _ c.from_residual.ensures.1 (λ d rest hand.
    let more : length s.tasks.items < length d.tasks = omega (arith, c.requires.more, ap length hand.task_names) in
    let len : c.len.result ≡ length s.tasks.items = search rules in
    let name : get_or d.tasks (length s.tasks.items) [] ≡ c.at-name.result.now =
    ap (λ (l : List (List ℕ)). get_or l (length s.tasks.items) []) (sym hand.task_names) ∙ ap (λ n. get_or s.task_names n []) (sym len) ∙ sym c.at-name.ensures in
    fails_with e _ _ (λ f r. task_fails d s.starts.items s.tasks.items s.messages.items s.tables.items (line_at c.args.line (meaning c.args.item.now) rest) c.at-name.result.now f more name r) (c.in_err-offset.ensures.err rest))
