use Rattle.std.proofs.Common.{length}
use Rattle.diff_store.proofs.Marks.{Marking}
use Rattle.diff_store.proofs.cycles.mark_chain.Given as goal

abbrev pub invariant-loop-step : goal.invariant-loop-step
invariant-loop-step l = Marking (length l.values) l.list l.values l.causes l.x l.chain l.variable
