use Rattle.std.proofs.Common.{◌≡◌, true, None, is_some, slice_index_or}
use Rattle.std.specs.List.{list_all}
use Rattle.sched_model.specs.Numbers.{below}
use Rattle.node_core.proofs.registers.InRow.is_full.Given as goal

abbrev pub invariant-loop-place : goal.invariant-loop-place
invariant-loop-place l = list_all (λ c. is_some (slice_index_or l.self c None)) (below l.place) ≡ true
