use Rattle.std.proofs.Common.{ℕ, ◌↔◌, IsTrue, subst}
use Rattle.sched_model.specs.PlainMode.{plain_at}
use Rattle.sched_model.specs.RightSchedule.{MessageFits}
use Rattle.sched_model.proofs.Passing.{passes_one}
use Rattle.sched_model.proofs.message_clause.messages_fit.Goals as goal

pub loop-message-preserved : goal.loop-message-preserved
loop-message-preserved c =
    let m = plain_at c.args.set.now c.args.mode in
    passes_one (MessageFits m c.args.s.now) c.loop-message.message c.window_fits.result
    (subst (λ (i : ℕ). IsTrue c.window_fits.result ↔ MessageFits m c.args.s.now i) c.window_of-window.ensures.place c.window_fits.ensures) c.if-not-window_fits.false c.loop-message.invariant
