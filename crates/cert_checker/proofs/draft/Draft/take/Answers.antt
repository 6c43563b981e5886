use Rattle.std.proofs.lemmas.Result.{IfErr-weaker, IfOk-weaker}
use Rattle.cert_checker.specs.DraftReading.{doc_at}
use Rattle.cert_checker.proofs.draft.Draft.take.Goals as goal

pub returns-then-len-clause-kept : goal.returns-then-len-clause-kept
returns-then-len-clause-kept c = IfOk-weaker c.take_task.result _ _ (λ _ h. h (doc_at c.args.set.now c.args.mode) c.requires.hand) c.take_task.ensures.kept

pub returns-then-len-clause-goes : goal.returns-then-len-clause-goes
returns-then-len-clause-goes c = IfOk-weaker c.take_task.result _ _ (λ _ h rest. h (doc_at c.args.set.now c.args.mode) rest c.requires.hand) c.take_task.ensures.goes

pub returns-then-len-clause-err : goal.returns-then-len-clause-err
returns-then-len-clause-err c = IfErr-weaker c.take_task.result _ _ (λ e h rest. h (doc_at c.args.set.now c.args.mode) rest c.requires.hand) c.take_task.ensures.err

pub returns-then-len-2-clause-kept : goal.returns-then-len-2-clause-kept
returns-then-len-2-clause-kept c = IfOk-weaker c.take_message.result _ _ (λ _ h. h (doc_at c.args.set.now c.args.mode) c.requires.hand) c.take_message.ensures.kept

pub returns-then-len-2-clause-goes : goal.returns-then-len-2-clause-goes
returns-then-len-2-clause-goes c = IfOk-weaker c.take_message.result _ _ (λ _ h rest. h (doc_at c.args.set.now c.args.mode) rest c.requires.hand) c.take_message.ensures.goes

pub returns-then-len-2-clause-err : goal.returns-then-len-2-clause-err
returns-then-len-2-clause-err c = IfErr-weaker c.take_message.result _ _ (λ e h rest. h (doc_at c.args.set.now c.args.mode) rest c.requires.hand) c.take_message.ensures.err

pub returns-clause-kept : goal.returns-clause-kept
returns-clause-kept c = IfOk-weaker c.take_table.result _ _ (λ _ h. h c.requires.hand) c.take_table.ensures.kept

pub returns-clause-goes : goal.returns-clause-goes
returns-clause-goes c = IfOk-weaker c.take_table.result _ _ (λ _ h rest. h rest c.requires.hand) c.take_table.ensures.goes

pub returns-clause-err : goal.returns-clause-err
returns-clause-err c = IfErr-weaker c.take_table.result _ _ (λ e h rest. h rest c.requires.hand) c.take_table.ensures.err
