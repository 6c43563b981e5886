use Rattle.std.proofs.Common.{◌≡◌, ◌-◌, ◌≤◌}
use Rattle.std.specs.List.{flat_map}
use Rattle.sched_model.specs.Numbers.{below}
use Rattle.world_core.specs.Cycle.{due_in}
use Rattle.world_core.proofs.cycle.due_before.Given as goal

abbrev pub invariant-loop-tick : goal.invariant-loop-tick
invariant-loop-tick l = record {
  entries : l.entries.items ≡ flat_map (due_in l.tasks l.schedule) (below l.tick);
  within : l.tick ≤ l.hyper;
}

abbrev pub decreases-loop-tick : goal.decreases-loop-tick
decreases-loop-tick l = l.hyper - l.tick
