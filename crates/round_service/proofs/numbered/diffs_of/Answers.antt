use Rattle.std.proofs.Common.{◌+◌, ◌*◌, ℤ, length, to_z, of_z, w64, FitsSigned, ◌∙◌, ap, subst, arith, rules}
use Rattle.std.proofs.lemmas.Int.{to_z-of_z}
use Rattle.sched_model.specs.PlainMode.{plain_at}
use Rattle.sched_model.proofs.LimitedModes.{mode_at_limited}
use Rattle.round_service.specs.Serving.{Shows, served}
use Rattle.round_service.proofs.numbered.diffs_of.Goals as goal

pub overflow_mul-opens : goal.overflow_mul-opens
overflow_mul-opens c = omega (arith, c.message_place-place.ensures.within, (mode_at_limited c.args.set.now c.requires.rules c.args.mode c.requires.message.1.mode).messages)

pub overflow_add-opens-2 : goal.overflow_add-opens-2
overflow_add-opens-2 c =
    omega (arith, c.message_place-place.ensures.within, (mode_at_limited c.args.set.now c.requires.rules c.args.mode c.requires.message.1.mode).messages, c.requires.rounds, c.tasks.ensures.most)

pub overflow_add-opens-3 : goal.overflow_add-opens-3
overflow_add-opens-3 c =
    omega (arith, c.message_place-place.ensures.within, (mode_at_limited c.args.set.now c.requires.rules c.args.mode c.requires.message.1.mode).messages, c.requires.rounds, c.tasks.ensures.most)

pub returns : goal.returns
returns c = λ a w.
    let fits : FitsSigned w64 c.args.g = search rules in
    let m = plain_at c.args.set.now c.args.mode in
    let r = c.args.rounds in
    let t = c.times_at-times.result in
    let e = c.message_place-place.ensures.value a w in
    let shows = subst (λ n. Shows m r n t) e c.times_at-times.ensures.shows in
    let z = to_z w64 (of_z w64 c.args.g) in
    c.serve_diffs.ensures
    ∙ ap (λ n. served (r + n + 2 * c.message_place-place.result) (r + n + 2 * c.message_place-place.result + 1) t c.args.i z) c.tasks.ensures.value
    ∙ ap (λ n. served (r + length m.tasks + 2 * n) (r + length m.tasks + 2 * n + 1) t c.args.i z) e
    ∙ ap (λ (v : ℤ). served (r + length m.tasks + 2 * a) (r + length m.tasks + 2 * a + 1) t c.args.i v) (to_z-of_z w64 c.args.g fits)
    ∙ (c.choices_are_decisions.ensures m r a t shows).2 c.args.i c.args.g
