use Rattle.std.proofs.Common.{◌≡◌}
use Rattle.std.specs.List.{flat_map}
use Rattle.sched_model.specs.Numbers.{below}
use Rattle.node_tables.specs.OwnParts.{task_part}
use Rattle.node_tables.proofs.parts.own_tasks.Given as goal

abbrev pub invariant-loop-place : goal.invariant-loop-place
invariant-loop-place l = l.own.items ≡ flat_map (task_part l.tasks l.offsets l.node) (below l.place)
