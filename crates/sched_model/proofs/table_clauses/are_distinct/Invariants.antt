use Rattle.std.proofs.Common.{◌≡◌, length}
use Rattle.sched_model.specs.Numbers.{distinct}
use Rattle.sched_model.proofs.table_clauses.are_distinct.Given as goal

abbrev pub invariant-loop-rest : goal.invariant-loop-rest
invariant-loop-rest l = distinct l.fn.numbers ≡ distinct l.rest

abbrev pub decreases-loop-rest : goal.decreases-loop-rest
decreases-loop-rest l = length l.rest
