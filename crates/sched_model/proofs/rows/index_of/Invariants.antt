use Rattle.std.proofs.Common.{◌≡◌, ◌+◌, drop}
use Rattle.sched_model.specs.Rows.{index_of}
use Rattle.sched_model.proofs.rows.index_of.Given as goal

abbrev pub invariant-loop-index : goal.invariant-loop-index
invariant-loop-index l = l.index + index_of (drop l.index l.tasks) l.number ≡ index_of l.tasks l.number
