use Rattle.diff_solver.proofs.Back.{Writing}
use Rattle.diff_solver.proofs.cycles.write_back.Given as goal

abbrev pub invariant-loop-start : goal.invariant-loop-start
invariant-loop-start l = Writing l.list l.causes l.cycle l.end l.variable l.start
