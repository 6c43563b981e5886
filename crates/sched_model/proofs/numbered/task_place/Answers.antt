use Rattle.std.proofs.Common.{sym, ◌∙◌, arith}
use Rattle.sched_model.proofs.TaskNumbers.{one_place}
use Rattle.sched_model.proofs.numbered.task_place.Goals as goal

pub returns-then-task_row-number-clause-value : goal.returns-then-task_row-number-clause-value
returns-then-task_row-number-clause-value c = λ a w.
    one_place c.args.set.now c.requires.rules c.args.mode c.loop-place.place a c.args.number
    (record { mode = w.mode; place = omega (arith, c.loop-place-test.true, c.tasks-place-end.ensures.value); is = sym c.task_row.ensures.number ∙ c.if-task_row-number.true }) w
