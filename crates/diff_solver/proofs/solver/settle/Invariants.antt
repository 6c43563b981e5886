use Rattle.std.proofs.Common.{length}
use Rattle.diff_solver.proofs.Settling.{Settling}
use Rattle.diff_solver.proofs.solver.settle.Given as goal

abbrev pub invariant-loop-round : goal.invariant-loop-round
invariant-loop-round l = Settling l.list (length l.fn.values) l.round l.values l.rounds l.causes l.last
