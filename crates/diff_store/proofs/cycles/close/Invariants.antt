use Rattle.diff_store.proofs.Home.{Writing}
use Rattle.diff_store.proofs.cycles.close.Given as goal

abbrev pub invariant-loop-variable : goal.invariant-loop-variable
invariant-loop-variable l = Writing l.list l.causes l.cycle l.last l.variable l.start

abbrev pub decreases-loop-variable : goal.decreases-loop-variable
decreases-loop-variable l = l.start
