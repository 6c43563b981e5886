use Rattle.std.proofs.Common.{◌∷◌, ◌++◌, List, length, ap, sym, subst, arith, rules}
use Rattle.std.proofs.lemmas.List.{append_assoc}
use Rattle.std.proofs.lemmas.Result.{IfOk-equal}
use Rattle.std.specs.List.{flat_map}
use Rattle.node_tables.specs.Fields.{Short, AreInRange}
use Rattle.node_tables.specs.Image as images
use Rattle.node_tables.specs.declared.version.Version.TheVariants.{Second}
use Rattle.node_tables.specs.declared.tables.OwnMessage.{OwnMessage}
use Rattle.node_tables.specs.declared.tables.OwnRound.{OwnRound}
use Rattle.node_tables.specs.declared.tables.ModeTable.{ModeTable}
use Rattle.node_tables.proofs.Codecs.{ranges_front, ranges_rest, bytes-append}
use Rattle.node_tables.proofs.entries.ModeTableEntry.write.Goals as goal

-- the ranges of what stands behind the tasks
behind_tasks : (m : ModeTable) → AreInRange (images.mode_fields Second m) →
    AreInRange (Short 0 64 (length m.messages) ∷ (flat_map images.message_fields m.messages ++ flat_map (images.round_fields Second) m.rounds))
behind_tasks m ranges =
    ranges_rest (flat_map images.task_fields m.tasks) (Short 0 64 (length m.messages) ∷ (flat_map images.message_fields m.messages ++ flat_map (images.round_fields Second) m.rounds)) ranges.1.1.1.1

pub overflow_cast-messages : goal.overflow_cast-messages
overflow_cast-messages c =
    let others = behind_tasks c.args.self.now c.requires in
    record { fits = omega (arith, others.0.1, ap length c.as_slice-messages.ensures) }

pub write_list-requires-2 : goal.write_list-requires-2
write_list-requires-2 c =
    let m = c.args.self.now in
    let P : List OwnMessage → Type 0 = λ ms. AreInRange (flat_map images.message_fields ms) in
    subst P (sym c.as_slice-messages.ensures) (ranges_front (flat_map images.message_fields m.messages) (flat_map (images.round_fields Second) m.rounds) (behind_tasks m c.requires).1)

pub write_list-requires-3 : goal.write_list-requires-3
write_list-requires-3 c =
    let m = c.args.self.now in
    let P : List OwnRound → Type 0 = λ rs. AreInRange (flat_map (images.round_fields Second) rs) in
    subst P (sym c.as_slice-rounds.ensures) (ranges_rest (flat_map images.message_fields m.messages) (flat_map (images.round_fields Second) m.rounds) (behind_tasks m c.requires).1)

pub returns : goal.returns
returns c = search (rules, IfOk-equal, append_assoc, bytes-append)
