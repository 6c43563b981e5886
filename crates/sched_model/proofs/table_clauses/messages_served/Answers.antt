use Rattle.std.proofs.Common.{ℕ, ◌<◌, ◌↔◌, IsTrue, subst}
use Rattle.sched_model.specs.PlainMode.{plain_at, message_at, instance_count}
use Rattle.sched_model.specs.RightSchedule.{Exactly}
use Rattle.sched_model.specs.OneHyperperiod.{ServesFirst}
use Rattle.sched_model.proofs.Passing.{passes_one}
use Rattle.sched_model.proofs.table_clauses.messages_served.Goals as goal

pub loop-message-preserved : goal.loop-message-preserved
loop-message-preserved c =
    let m = plain_at c.args.set.now c.args.mode in
    let s = c.args.s.now in
    passes_one (λ i. (k : ℕ) → k < instance_count m (message_at m i) → Exactly (message_at m i).copies (ServesFirst m s i k)) c.loop-message.message c.are_served.result
    (subst (λ (i : ℕ). IsTrue c.are_served.result ↔ ((k : ℕ) → k < instance_count m (message_at m i) → Exactly (message_at m i).copies (ServesFirst m s i k))) c.window_of-window.ensures.place c.are_served.ensures)
    c.if-not-are_served.false c.loop-message.invariant
