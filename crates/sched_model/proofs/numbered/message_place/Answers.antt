use Rattle.std.proofs.Common.{sym, ◌∙◌, arith}
use Rattle.sched_model.proofs.TaskNumbers.{one_message}
use Rattle.sched_model.proofs.numbered.message_place.Goals as goal

pub returns-then-message_row-number-clause-value : goal.returns-then-message_row-number-clause-value
returns-then-message_row-number-clause-value c = λ a w.
    one_message c.args.set.now c.requires.rules c.args.mode c.loop-place.place a c.args.number
    (record { mode = w.mode; place = omega (arith, c.loop-place-test.true, c.message_count-place-end.ensures.value); is = sym c.message_row.ensures.number ∙ c.if-message_row-number.true }) w
