use Rattle.std.proofs.Common.{◌<◌, sym, ◌∙◌, subst, length, slice_index_or, refl, add-one}
use Rattle.std.proofs.lemmas.List.{length-set}
use Rattle.world_core.proofs.KeptLemmas.{reset_elsewhere, reset_here, seen_at}
use Rattle.world_core.proofs.kept.reset.Goals as goal
use Rattle.world_core.proofs.kept.reset.Goals.{then-owners-task, else-owners-task}

pub index_mut-requires : goal.index_mut-requires
index_mut-requires g c =
    let place = c.requires.bodies c.loop-task.task 0 (subst (λ n. c.loop-task.task < n) (sym c.requires.each) c.loop-task-test.true) in
    subst (λ n. slice_index_or c.args.places.now c.loop-task.task 0 < n) (sym (c.loop-task.bodies.ok.0 ∙ c.loop-task.invariant.1)) place

pub loop-task-preserved : goal.loop-task-preserved
loop-task-preserved g c =
    let task = c.loop-task.task in
    let b = slice_index_or c.args.places.now task 0 in
    elim c.if-owners-task.branch [
      | then-owners-task w ↦
          let place = c.requires.bodies task 0 (subst (λ n. task < n) (sym c.requires.each) c.loop-task-test.true) in
          let same = w.as_mut.ensures.value.1 in
          rw add-one (
            reset_here _ c.loop-task.bodies.items c.if-owners-task.bodies.items c.args.owners.now c.args.places.now c.args.node task _ _ _ (c.loop-task.invariant.0) w.if-owners-task.true
                ((λ i. (goal.TaskBody-dyn g (same i)).seen (same i).1)
                ∙ seen_at _ c.loop-task.bodies.items b b w.index_mut.result.now refl (subst (λ n. b < n) (sym c.loop-task.invariant.1) place) w.index_mut.ensures.value)
                w.reset.ensures (λ i. (w.bodies-is i).items),
            (λ i. length (w.bodies-is i).items) ∙ length-set c.loop-task.bodies.items b _ ∙ c.loop-task.invariant.1,
          )
      | else-owners-task w ↦
          rw add-one (
            reset_elsewhere _ c.loop-task.bodies.items c.if-owners-task.bodies.items c.args.owners.now c.args.places.now c.args.node task _ (c.loop-task.invariant.0) w.if-owners-task.false
                (λ i. (w.bodies-is i).items),
            (λ i. length (w.bodies-is i).items) ∙ c.loop-task.invariant.1,
          )
    ]
