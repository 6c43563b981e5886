use Rattle.std.proofs.Common.{◌≡◌, ◌<◌, length, sym, ◌∙◌, ap, arith}
use Rattle.std.specs.Str.{bytes_eq}
use Rattle.world_core.specs.StandsFor.{place_of_body}
use Rattle.world_core.proofs.BodyLookups.{all_seen, found_there, found_nowhere, none_more}
use Rattle.world_core.proofs.bodies.place_of.Goals as goal

pub returns : goal.returns
returns g c =
    let e : c.loop-place.place ≡ c.len.result = omega (arith, c.loop-place-test.false, c.loop-place.auto.place-end, c.len-place-end.ensures, c.len.ensures) in
    let past : c.loop-place.place ≡ length c.args.bodies.now.items = omega (arith, e, c.len.ensures) in
    sym e ∙ sym (found_nowhere c.args.bodies.now.items (λ z. (goal.TaskBody-dyn g (z.vtable, z.value)).seen z.value) c.text-text.result.now c.loop-place.place past c.loop-place.invariant)
    ∙ ap (place_of_body (all_seen c.args.bodies.now.items (λ z. (goal.TaskBody-dyn g (z.vtable, z.value)).seen z.value))) c.text-text.ensures

pub returns-then-name_is : goal.returns-then-name_is
returns-then-name_is g c =
    let l : c.loop-place.place < length c.args.bodies.now.items = omega (arith, c.loop-place-test.true, c.len-place-end.ensures) in
    sym (found_there c.args.bodies.now.items (λ z. (goal.TaskBody-dyn g (z.vtable, z.value)).seen z.value) c.text-text.result.now c.loop-place.place c.index.result.now l c.index.ensures (sym (ap (λ w. bytes_eq c.text-text.result.now ((goal.TaskBody-dyn g w).seen w.1).name) c.as_ref.ensures.1) ∙ sym c.name_is.ensures ∙ c.if-name_is.true) c.loop-place.invariant)
    ∙ ap (place_of_body (all_seen c.args.bodies.now.items (λ z. (goal.TaskBody-dyn g (z.vtable, z.value)).seen z.value))) c.text-text.ensures

pub loop-place-preserved : goal.loop-place-preserved
loop-place-preserved g c =
    let l : c.loop-place.place < length c.args.bodies.now.items = omega (arith, c.loop-place-test.true, c.len-place-end.ensures) in
    let more = none_more c.args.bodies.now.items (λ z. (goal.TaskBody-dyn g (z.vtable, z.value)).seen z.value) c.text-text.result.now c.loop-place.place c.index.result.now l c.index.ensures (sym (ap (λ w. bytes_eq c.text-text.result.now ((goal.TaskBody-dyn g w).seen w.1).name) c.as_ref.ensures.1) ∙ sym c.name_is.ensures ∙ c.if-name_is.false) c.loop-place.invariant in
    more
