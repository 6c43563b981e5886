use Rattle.std.proofs.Common.{◌≡◌, ◌+◌, get_or, []}
use Rattle.std.specs.List.{flat_map}
use Rattle.sched_model.specs.Numbers.{below}
use Rattle.node_tables.specs.OwnParts.{slot_part}
use Rattle.node_tables.proofs.parts.own_slots.Given as goal

abbrev pub invariant-loop-place : goal.invariant-loop-place
invariant-loop-place l = l.own.items ≡ flat_map (λ k. slot_part l.messages l.schedule l.hyper l.round (k + 1) (get_or (get_or l.schedule.tables l.round []) k 0)) (below l.place)
