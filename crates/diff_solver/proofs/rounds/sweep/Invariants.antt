use Rattle.diff_solver.proofs.Sweeps.{Sweeping}
use Rattle.diff_solver.proofs.rounds.sweep.Given as goal

abbrev pub invariant-loop-position : goal.invariant-loop-position
invariant-loop-position l = Sweeping l.list l.round l.values l.rounds l.causes l.swept l.position
