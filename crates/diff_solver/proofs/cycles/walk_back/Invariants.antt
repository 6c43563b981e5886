use Rattle.std.proofs.Common.{◌≡◌}
use Rattle.diff_solver.specs.Causes.{back}
use Rattle.diff_solver.proofs.cycles.walk_back.Given as goal

abbrev pub invariant-loop-step : goal.invariant-loop-step
invariant-loop-step l = l.variable ≡ back l.list l.causes l.from l._step
