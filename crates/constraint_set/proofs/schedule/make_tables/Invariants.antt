use Rattle.std.proofs.Common.{◌≡◌, map}
use Rattle.sched_model.specs.Numbers.{below}
use Rattle.sched_model.specs.PrintedSchedule.{table_of}
use Rattle.constraint_set.proofs.schedule.make_tables.Given as goal

abbrev pub invariant-loop-round : goal.invariant-loop-round
invariant-loop-round l = l.tables.items ≡ map (table_of l.frame l.rounds l.choices) (below l.round)
