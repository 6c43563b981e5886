use Rattle.std.proofs.Common.{All, List, sym, subst}
use Rattle.std.proofs.lemmas.List.Elements.{All-get_or}
use Rattle.app_graph.specs.declared.mode_set.Mode.{Mode}
use Rattle.world_core.specs.TaskBodies.{HasTexts}
use Rattle.world_core.proofs.TaskNames.{set_texts}
use Rattle.world_core.proofs.bodies.places.Goals as goal

pub add_mode-requires : goal.add_mode-requires
add_mode-requires g c =
    let P = λ (m : Mode). All HasTexts m.apps in
    let texts : All P c.as_slice-mode-items.result.now = subst (λ (ms : List Mode). All P ms) (sym c.as_slice-mode-items.ensures) (set_texts c.args.set.now c.requires) in
    subst P (sym c.mode-item.is) (All-get_or P c.as_slice-mode-items.result.now c.loop-mode.mode-index c.mode-item.result c.loop-mode-test.true texts)
