use Rattle.std.proofs.Common.{◌≡◌, ◌↔◌, ℕ, All, List, sym, ◌∙◌, ap, subst}
use Rattle.std.specs.Prelude.{Option, Some, None}
use Rattle.std.specs.List.{flat_map}
use Rattle.std.proofs.lemmas.List.Elements.{All-get_or}
use Rattle.app_graph.specs.declared.mode_set.Mode.{Mode}
use Rattle.world_core.specs.StandsFor.{HaveBodies}
use Rattle.world_core.specs.TaskBodies.{HasTexts, missing_among, tasks_in}
use Rattle.world_core.proofs.TaskNames.{set_texts}
use Rattle.world_core.proofs.BodyLookups.{all_seen}
use Rattle.world_core.proofs.FirstMissing.{missing_is, missing_none, no_parts_left, rest_parts}
use Rattle.world_core.proofs.bodies.missing_body.Goals as goal

pub missing_in_mode-requires : goal.missing_in_mode-requires
missing_in_mode-requires g c =
    let P = λ (m : Mode). All HasTexts m.apps in
    let texts : All P c.as_slice-mode-items.result.now = subst (λ (ms : List Mode). All P ms) (sym c.as_slice-mode-items.ensures) (set_texts c.args.set.now c.requires) in
    subst P (sym c.mode-item.is) (All-get_or P c.as_slice-mode-items.result.now c.loop-mode.mode-index c.mode-item.result c.loop-mode-test.true texts)

pub returns-in-Some : goal.returns-in-Some
returns-in-Some g c =
    let B = all_seen c.args.bodies.now.items (λ z. (goal.TaskBody-dyn g (z.vtable, z.value)).seen z.value) in
    let rest = rest_parts tasks_in B c.as_slice-mode-items.result.now c.loop-mode.mode-index c.mode-item.result (Some c.in-Some.task) c.loop-mode-test.true c.mode-item.is (sym c.in-Some.is ∙ c.missing_in_mode.ensures) in
    let first = sym rest ∙ sym c.loop-mode.invariant ∙ ap (λ (xs : List Mode). missing_among B (flat_map tasks_in xs)) c.as_slice-mode-items.ensures ∙ missing_is B c.args.set.now c.requires in
    record { first = first; complete = subst (λ (r : Option ℕ). r ≡ None ↔ HaveBodies c.args.set.now B) (sym first) (missing_none B c.args.set.now) }

pub loop-mode-preserved : goal.loop-mode-preserved
loop-mode-preserved g c =
    let B = all_seen c.args.bodies.now.items (λ z. (goal.TaskBody-dyn g (z.vtable, z.value)).seen z.value) in
    c.loop-mode.invariant ∙ rest_parts tasks_in B c.as_slice-mode-items.result.now c.loop-mode.mode-index c.mode-item.result None c.loop-mode-test.true c.mode-item.is (sym c.in_default.is ∙ c.missing_in_mode.ensures)

pub returns : goal.returns
returns g c =
    let B = all_seen c.args.bodies.now.items (λ z. (goal.TaskBody-dyn g (z.vtable, z.value)).seen z.value) in
    let none = no_parts_left tasks_in B c.as_slice-mode-items.result.now c.loop-mode.mode-index c.loop-mode-test.false in
    let first = sym none ∙ sym c.loop-mode.invariant ∙ ap (λ (xs : List Mode). missing_among B (flat_map tasks_in xs)) c.as_slice-mode-items.ensures ∙ missing_is B c.args.set.now c.requires in
    record { first = first; complete = subst (λ (r : Option ℕ). r ≡ None ↔ HaveBodies c.args.set.now B) (sym first) (missing_none B c.args.set.now) }
