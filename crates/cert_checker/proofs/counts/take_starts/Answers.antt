use Rattle.std.proofs.Common.{◌≡◌, List, ℤ, All, ap, length, map, subst, sym, ◌∙◌}
use Rattle.sched_model.specs.TimeLimits.{IsTime}
use Rattle.app_graph.specs.declared.mode_set.App.{App}
use Rattle.proof_tree.specs.Names.{tasks_in, messages_in}
use Rattle.proof_tree.specs.PlanLines.{meaning}
use Rattle.cert_checker.specs.DraftReading.{doc_at}
use Rattle.cert_checker.specs.TreeStack.{line_at, behind_line}
use Rattle.cert_checker.proofs.Errors.{handed_on, fails_with}
use Rattle.cert_checker.proofs.Modes.{follows_from, schedule_starts, schedule_fails, named_at, begun_in_hand, begun_due}
use Rattle.cert_checker.proofs.counts.take_starts.Goals as goal

pub returns-in_err-starts-clause-err : goal.returns-in_err-starts-clause-err
returns-in_err-starts-clause-err c =
    let e = c.in_err-starts.field-0.0 in
    let d = doc_at c.args.set.now c.args.mode in
    handed_on c.from_residual.result e _ c.from_residual.ensures.1 (λ rest.
    fails_with e _ _ (λ f r. schedule_fails d c.args.rounds (line_at c.args.line (meaning c.args.item.now) rest) f r) (c.in_err-starts.ensures.err rest))

pub returns-clause-ok : goal.returns-clause-ok
returns-clause-ok c =
    let set = c.args.set.now in
    let mode = c.args.mode in
    let d = doc_at set mode in
    let s = c.in_ok-draft.draft in
    let ss = c.in_ok-starts.starts.items in
    let x = c.in_ok-draft.ensures in
    let starts = c.in_ok-starts.ensures in
    let tasks : s.task_names ≡ d.tasks = x.tasks_due ∙ ap (λ (l : List App). map (λ task. task.name) (tasks_in l)) c.apps_of.ensures in
    let messages : s.message_names ≡ d.messages = x.messages_due ∙ ap (λ (l : List App). map (λ message. message.name) (messages_in l)) c.apps_of.ensures in
    let count = ap length x.starts ∙ starts.count in
    let hand = begun_in_hand d s c.args.rounds (named_at set mode c.requires.rules c.requires.mode) tasks messages count c.requires.some
    (subst (λ (l : List ℤ). All IsTime l) (sym x.starts) starts.few) x.tasks x.messages x.tables in
    follows_from mode d c.args.line _ _ c.after_starts.result
    (λ rest. schedule_starts d c.args.rounds (line_at c.args.line (meaning c.args.item.now) rest) (behind_line c.args.line rest) ss (starts.ok rest) starts.count
    ∙ sym (begun_due d s ss (behind_line c.args.line rest) x.starts x.tasks x.messages x.tables))
    (c.after_starts.ensures mode c.args.line d hand)
