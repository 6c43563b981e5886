use Rattle.std.proofs.Common.{◌∷◌, List, ℕ, length, ap, sym, subst, arith}
use Rattle.std.specs.List.{flat_map}
use Rattle.node_tables.specs.Fields.{Byte, AreInRange}
use Rattle.node_tables.specs.Image as images
use Rattle.node_tables.proofs.Codecs.{ranges_rest}
use Rattle.node_tables.proofs.entries.OwnMessageEntry.write.Goals as goal

pub overflow_cast-consumers : goal.overflow_cast-consumers
overflow_cast-consumers c =
    let m = c.args.self.now in
    let others = ranges_rest (flat_map images.task_field m.producers) (Byte 0 16 (length m.consumers) ∷ flat_map images.task_field m.consumers) c.requires.1.1.1 in
    record { fits = omega (arith, others.0.1, ap length c.as_slice-consumers.ensures) }

pub write_list-requires-2 : goal.write_list-requires-2
write_list-requires-2 c =
    let m = c.args.self.now in
    let others = ranges_rest (flat_map images.task_field m.producers) (Byte 0 16 (length m.consumers) ∷ flat_map images.task_field m.consumers) c.requires.1.1.1 in
    let P : List ℕ → Type 0 = λ ns. AreInRange (flat_map images.task_field ns) in
    subst P (sym c.as_slice-consumers.ensures) others.1
