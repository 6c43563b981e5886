use Rattle.std.proofs.Common.{◌≡◌, ◌+◌, ◌≤◌, [], ◌∷◌, ◌++◌, length, All, ap, arith, rules}
use Rattle.sched_model.specs.RightSchedule.{IsMessage}
use Rattle.cert_checker.specs.DraftReading.{doc_at}
use Rattle.cert_checker.specs.TreeStack.{line_at, behind_line}
use Rattle.proof_tree.specs.PlanLines.{meaning}
use Rattle.cert_checker.proofs.Errors.{handed_on, fails_with}
use Rattle.cert_checker.proofs.Drafts.{table_taken, table_fails, all_more, one_on}
use Rattle.cert_checker.proofs.draft.Draft.take_table.Goals as goal

pub returns-in_err-numbers-clause-err : goal.returns-in_err-numbers-clause-err
returns-in_err-numbers-clause-err c =
    let s = c.args.self.now in
    let d = doc_at c.args.set.now c.args.mode in
    let e = c.in_err-numbers.field-0.0 in
    handed_on c.from_residual.result e _ c.from_residual.ensures.1 (λ rest hand.
    let done : length d.tasks ≤ length s.tasks.items = omega (arith, c.requires.tasks, ap length hand.task_names) in
    let gone : length d.messages ≤ length s.messages.items = omega (arith, c.requires.messages, ap length hand.message_names) in
    let len : c.len.result + 1 ≡ length s.tables.items + 1 = search rules in
    fails_with e _ _ (λ f r. table_fails d s.starts.items s.tasks.items s.messages.items s.tables.items (line_at c.args.line (meaning c.args.item.now) rest) (c.len.result + 1) f done gone c.requires.more len r) (c.in_err-numbers.ensures.err rest))

pub returns-clause-kept : goal.returns-clause-kept
returns-clause-kept c =
    let s = c.args.self.now in
    let table = c.in_ok-numbers.numbers.items in
    let new : c.push.new.self.items ≡ s.tables.items ++ table ∷ [] = search rules in
    λ hand. record {
      task_count = hand.task_count;
      message_count = hand.message_count;
      task_names = hand.task_names;
      message_names = hand.message_names;
      some = hand.some;
      tasks = hand.tasks;
      messages = hand.messages;
      tables = omega (arith, ap length new, one_on s.tables.items table, c.requires.more);
      start_times = hand.start_times;
      task_times = hand.task_times;
      message_times = hand.message_times;
      numbers = all_more (λ t. All (IsMessage (doc_at c.args.set.now c.args.mode).mode) t) s.tables.items c.push.new.self.items table hand.numbers c.in_ok-numbers.ensures.numbers new;
    }

pub returns-clause-goes : goal.returns-clause-goes
returns-clause-goes c =
    let s = c.args.self.now in
    let d = doc_at c.args.set.now c.args.mode in
    let table = c.in_ok-numbers.numbers.items in
    let new : c.push.new.self.items ≡ s.tables.items ++ table ∷ [] = search rules in
    λ rest hand.
    let done : length d.tasks ≤ length s.tasks.items = omega (arith, c.requires.tasks, ap length hand.task_names) in
    let gone : length d.messages ≤ length s.messages.items = omega (arith, c.requires.messages, ap length hand.message_names) in
    let len : c.len.result + 1 ≡ length s.tables.items + 1 = search rules in
    table_taken d s.starts.items s.tasks.items s.messages.items s.tables.items c.push.new.self.items (line_at c.args.line (meaning c.args.item.now) rest) (behind_line c.args.line rest) (c.len.result + 1) table done gone c.requires.more len
    (c.in_ok-numbers.ensures.ok rest) new
