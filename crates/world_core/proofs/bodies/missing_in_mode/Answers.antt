use Rattle.std.proofs.Common.{All, List, sym, ◌∙◌, ap, subst}
use Rattle.std.specs.Prelude.{Some, None}
use Rattle.std.specs.List.{flat_map}
use Rattle.std.proofs.lemmas.List.Elements.{All-get_or}
use Rattle.app_graph.specs.declared.mode_set.App.{App}
use Rattle.world_core.specs.TaskBodies.{HasTexts, missing_among}
use Rattle.world_core.proofs.BodyLookups.{all_seen}
use Rattle.world_core.proofs.FirstMissing.{rest_parts}
use Rattle.world_core.proofs.bodies.missing_in_mode.Goals as goal

pub missing_in_app-requires : goal.missing_in_app-requires
missing_in_app-requires g c =
    let texts : All HasTexts c.as_slice-app-items.result.now = subst (λ (apps : List App). All HasTexts apps) (sym c.as_slice-app-items.ensures) c.requires in
    subst HasTexts (sym c.app-item.is) (All-get_or HasTexts c.as_slice-app-items.result.now c.loop-app.app-index c.app-item.result c.loop-app-test.true texts)

pub returns-in-Some : goal.returns-in-Some
returns-in-Some g c =
    let B = all_seen c.args.bodies.now.items (λ z. (goal.TaskBody-dyn g (z.vtable, z.value)).seen z.value) in
    let rest = rest_parts (λ (a : App). a.tasks) B c.as_slice-app-items.result.now c.loop-app.app-index c.app-item.result (Some c.in-Some.task) c.loop-app-test.true c.app-item.is (sym c.in-Some.is ∙ c.missing_in_app.ensures) in
    sym rest ∙ sym c.loop-app.invariant ∙ ap (λ (xs : List App). missing_among B (flat_map (λ (a : App). a.tasks) xs)) c.as_slice-app-items.ensures

pub loop-app-preserved : goal.loop-app-preserved
loop-app-preserved g c =
    let B = all_seen c.args.bodies.now.items (λ z. (goal.TaskBody-dyn g (z.vtable, z.value)).seen z.value) in
    c.loop-app.invariant ∙ rest_parts (λ (a : App). a.tasks) B c.as_slice-app-items.result.now c.loop-app.app-index c.app-item.result None c.loop-app-test.true c.app-item.is (sym c.in_default.is ∙ c.missing_in_app.ensures)
