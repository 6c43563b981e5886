use Rattle.std.proofs.Common.{◌≡◌, ◌++◌, take}
use Rattle.std.specs.List.{flat_map}
use Rattle.world_core.specs.Cycle.{ends_in}
use Rattle.world_core.proofs.cycle.add_ends.Given as goal

abbrev pub invariant-loop-task : goal.invariant-loop-task
invariant-loop-task l = l.entries.items ≡ l.initial.entries.items ++ flat_map (ends_in l.tick) (take l.task-index l.tasks)
