use Rattle.std.proofs.Common.{ℕ, ◌+◌, List, ◌++◌, get_or, [], ap, ◌∙◌}
use Rattle.node_tables.specs.OwnParts.{slot_part}
use Rattle.node_tables.proofs.PartLists.{below_step}
use Rattle.node_tables.proofs.parts.own_slots.Goals as goal

pub loop-place-preserved : goal.loop-place-preserved
loop-place-preserved c =
    below_step (λ k. slot_part c.args.messages.now c.args.schedule.now c.args.hyper c.args.round (k + 1) (get_or (get_or c.args.schedule.now.tables c.args.round []) k 0)) c.loop-place.place c.loop-place.own.items c.add_slot.new.own.items
    c.loop-place.invariant (c.in_ok-add_slot.ensures ∙ ap (λ (l : List ℕ). c.loop-place.own.items ++ slot_part c.args.messages.now c.args.schedule.now c.args.hyper c.args.round (c.loop-place.place + 1) (get_or l c.loop-place.place 0)) c.table_of-number-items.ensures.table)
