use Rattle.std.proofs.Common.{ℕ, ◌<◌, ◌↔◌, IsTrue, length, subst}
use Rattle.sched_model.specs.PlainMode.{plain_at}
use Rattle.sched_model.specs.OneHyperperiod.{Lists, EndsInWindow}
use Rattle.sched_model.proofs.Passing.{passes_one}
use Rattle.sched_model.proofs.table_clauses.entries_fit.Goals as goal

pub loop-message-preserved : goal.loop-message-preserved
loop-message-preserved c =
    let m = plain_at c.args.set.now c.args.mode in
    let s = c.args.s.now in
    passes_one (λ i. (j : ℕ) → j < length s.starts → Lists m s i j → EndsInWindow m s i j) c.loop-message.message c.entries_of.result
    (subst (λ (i : ℕ). IsTrue c.entries_of.result ↔ ((j : ℕ) → j < length s.starts → Lists m s i j → EndsInWindow m s i j)) c.window_of-window.ensures.place c.entries_of.ensures)
    c.if-not-entries_of.false c.loop-message.invariant
