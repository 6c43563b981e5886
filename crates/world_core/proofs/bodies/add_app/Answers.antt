use Rattle.std.proofs.Common.{All, List, sym, subst}
use Rattle.std.specs.Str.{IsUtf8}
use Rattle.std.proofs.lemmas.List.Elements.{All-get_or}
use Rattle.app_graph.specs.declared.mode_set.Task.{Task}
use Rattle.world_core.proofs.bodies.add_app.Goals as goal

pub place_of-requires : goal.place_of-requires
place_of-requires g c =
    let texts : All (λ (t : Task). IsUtf8 t.body) c.as_slice-task-items.result.now = subst (λ (ts : List Task). All (λ (t : Task). IsUtf8 t.body) ts) (sym c.as_slice-task-items.ensures) c.requires in
    subst (λ (t : Task). IsUtf8 t.body) (sym c.task-item.is) (All-get_or (λ (t : Task). IsUtf8 t.body) c.as_slice-task-items.result.now c.loop-task.task-index c.task-item.result c.loop-task-test.true texts)
