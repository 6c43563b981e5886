use Rattle.std.proofs.Common.{ap, arith, length}
use Rattle.sched_model.proofs.TaskNumbers.{one_mode, few_modes}
use Rattle.sched_model.proofs.numbered.mode_of_task.Goals as goal

pub overflow_cast-mode-end : goal.overflow_cast-mode-end
overflow_cast-mode-end c = omega (arith, ap length c.as_slice.ensures, few_modes c.args.set.now c.requires.rules)

pub returns-then-has_task-clause-value : goal.returns-then-has_task-clause-value
returns-then-has_task-clause-value c = λ i a w.
    let found = c.has_task.ensures.found c.if-has_task.true in
    one_mode c.args.set.now c.requires.rules c.loop-mode.mode i found.0 a c.args.number found.1 w
