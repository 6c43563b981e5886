use Rattle.std.proofs.Common.{◌≡◌, ◌≤◌, ℕ, ap, sym, ◌∙◌, subst, to_z, of_z, w64}
use Rattle.node_tables.specs.declared.tables.OwnSlot.{OwnSlot}
use Rattle.node_tables.proofs.PartLists.{slot_made}
use Rattle.node_tables.proofs.parts.make_slot.Goals as goal

pub overflow_add-opens : goal.overflow_add-opens
overflow_add-opens c =
    let made = slot_made c.args.messages.now c.args.schedule.now c.args.hyper c.args.round c.args.slot c.args.number c.args.place c.as_slice.result.now c.as_slice-2.result.now c.release-release.result
    c.requires.round c.requires.sizes.windows c.requires.times c.requires.messages c.requires.place c.as_slice.ensures c.as_slice-2.ensures c.release-release.ensures in
    made.0

pub copy_of-requires-clause-few : goal.copy_of-requires-clause-few
copy_of-requires-clause-few c =
    let made = slot_made c.args.messages.now c.args.schedule.now c.args.hyper c.args.round c.args.slot c.args.number c.args.place c.as_slice.result.now c.as_slice-2.result.now c.release-release.result
    c.requires.round c.requires.sizes.windows c.requires.times c.requires.messages c.requires.place c.as_slice.ensures c.as_slice-2.ensures c.release-release.ensures in
    subst (λ (x : OwnSlot). x.copy ≤ 4) (sym made.1) c.requires.few

pub returns : goal.returns
returns c =
    let made = slot_made c.args.messages.now c.args.schedule.now c.args.hyper c.args.round c.args.slot c.args.number c.args.place c.as_slice.result.now c.as_slice-2.result.now c.release-release.result
    c.requires.round c.requires.sizes.windows c.requires.times c.requires.messages c.requires.place c.as_slice.ensures c.as_slice-2.ensures c.release-release.ensures in
    let with_copy = λ (n : ℕ). let x : OwnSlot = record { slot = c.args.slot; message = c.args.number; release = to_z w64 (of_z w64 c.release-release.result); copy = n } in x in
    ap with_copy c.copy_of.ensures ∙ made.1
