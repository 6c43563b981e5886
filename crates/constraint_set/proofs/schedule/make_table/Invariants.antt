use Rattle.std.proofs.Common.{◌≡◌, map, filter}
use Rattle.sched_model.specs.Numbers.{below}
use Rattle.sched_model.specs.PlainMode.{message_at}
use Rattle.sched_model.specs.ConstraintProblem.{place}
use Rattle.sched_model.specs.PrintedSchedule.{names}
use Rattle.constraint_set.proofs.schedule.make_table.Given as goal

abbrev pub invariant-loop-message : goal.invariant-loop-message
invariant-loop-message l = record {
  first : l.first ≡ place l.frame l.message 0;
  numbers : l.numbers.items ≡ map (λ i. (message_at l.frame i).number) (filter (names l.frame l.rounds l.choices l.round) (below l.message));
}
