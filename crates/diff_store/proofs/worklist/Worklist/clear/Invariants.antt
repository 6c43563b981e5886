use Rattle.std.proofs.Common.{◌≡◌, length}
use Rattle.std.specs.List.{count_by}
use Rattle.diff_store.proofs.worklist.Worklist.clear.Given as goal

abbrev pub invariant-loop-variable : goal.invariant-loop-variable
invariant-loop-variable l = length l.self ≡ length l.fn.self

abbrev pub decreases-loop-variable : goal.decreases-loop-variable
decreases-loop-variable l = count_by (λ w. w) l.self
