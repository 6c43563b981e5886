use Rattle.std.proofs.Common.{All, List, sym, subst}
use Rattle.std.proofs.lemmas.List.Elements.{All-get_or}
use Rattle.app_graph.specs.declared.mode_set.App.{App}
use Rattle.world_core.specs.TaskBodies.{HasTexts}
use Rattle.world_core.proofs.bodies.add_mode.Goals as goal

pub add_app-requires : goal.add_app-requires
add_app-requires g c =
    let texts : All HasTexts c.as_slice-app-items.result.now = subst (λ (apps : List App). All HasTexts apps) (sym c.as_slice-app-items.ensures) c.requires in
    subst HasTexts (sym c.app-item.is) (All-get_or HasTexts c.as_slice-app-items.result.now c.loop-app.app-index c.app-item.result c.loop-app-test.true texts)
