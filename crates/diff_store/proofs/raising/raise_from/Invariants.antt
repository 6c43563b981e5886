use Rattle.std.proofs.Common.{length, ◌-◌}
use Rattle.tick_num.specs.Differences.{listed}
use Rattle.diff_store.specs.Causes.{beside}
use Rattle.diff_store.specs.Chains.{begin}
use Rattle.diff_store.specs.Raising.{left_to_do}
use Rattle.diff_store.specs.Trails.{KeepsPast}
use Rattle.diff_store.proofs.Settling.{Along}
use Rattle.diff_store.proofs.raising.raise_from.Given as goal

abbrev pub invariant-loop-link : goal.invariant-loop-link
invariant-loop-link l =
    Along l.list l.variable l.link l.values l.causes l.chain l.worklist (left_to_do l.fn.values l.fn.worklist) (length l.fn.worklist)
    × KeepsPast l.fn.trail l.trail (listed l.fn.values) (listed l.values) (beside l.fn.causes) (beside l.causes)

abbrev pub decreases-loop-link : goal.decreases-loop-link
decreases-loop-link l = length l.list - begin l.list l.link
