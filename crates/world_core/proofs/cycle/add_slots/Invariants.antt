use Rattle.std.proofs.Common.{◌≡◌, ◌++◌, map}
use Rattle.sched_model.specs.Numbers.{below}
use Rattle.world_core.specs.Cycle.{slot_in}
use Rattle.world_core.proofs.cycle.add_slots.Given as goal

abbrev pub invariant-loop-place : goal.invariant-loop-place
invariant-loop-place l = l.entries.items ≡ l.initial.entries.items ++ map (slot_in l.tick l.table) (below l.place)
