use Rattle.std.proofs.Common.{length}
use Rattle.tick_num.specs.Differences.{listed}
use Rattle.diff_store.specs.Causes.{beside}
use Rattle.diff_store.specs.Raising.{left_to_do}
use Rattle.diff_store.specs.Trails.{KeepsPast}
use Rattle.diff_store.proofs.Settling.{Settling}
use Rattle.diff_store.proofs.raising.settle.Given as goal

abbrev pub invariant-loop-variable : goal.invariant-loop-variable
invariant-loop-variable l =
    Settling l.list l.values l.causes l.chain l.worklist (length l.fn.worklist)
    × KeepsPast l.fn.trail l.trail (listed l.fn.values) (listed l.values) (beside l.fn.causes) (beside l.causes)

abbrev pub decreases-loop-variable : goal.decreases-loop-variable
decreases-loop-variable l = left_to_do l.values l.worklist
