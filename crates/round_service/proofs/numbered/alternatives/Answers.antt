use Rattle.std.proofs.Common.{◌<◌, ◌-◌, length, get_or, pos, ℤ, ◌+ℤ◌, ◌-ℤ◌, w64, FitsSigned, sym, ◌∙◌, ap, arith, rules}
use Rattle.std.proofs.lemmas.Int.{to_z-of_z}
use Rattle.sched_model.specs.PlainMode.{plain_at}
use Rattle.sched_model.specs.ConstraintProblem.{serve, alternatives_of}
use Rattle.round_service.proofs.LaterChoices.{later_are}
use Rattle.round_service.proofs.numbered.alternatives.Goals as goal

pub returns-then-i-eq0 : goal.returns-then-i-eq0
returns-then-i-eq0 c = λ a w.
    c.first_of.ensures a c.args.chosen.now w ∙ ap (λ k. alternatives_of (plain_at c.args.set.now c.args.mode) c.args.rounds (serve a k) c.args.chosen.now) (sym c.if-i-eq0.true)

pub returns : goal.returns
returns c = λ a w.
    let p = c.args.chosen.now in
    let some : 0 < c.args.i = omega (arith, c.if-i-eq0.false) in
    let last = get_or p (length p - 1) (pos 0) in
    let first = get_or p 0 (pos 0) in
    let last_fits : FitsSigned w64 last = search rules in
    let first_fits : FitsSigned w64 first = search rules in
    later_are (plain_at c.args.set.now c.args.mode) c.args.rounds a c.args.i p c.later_choices.result.0 c.later_choices.result.1 some c.requires.before
    (c.later_choices.ensures.low ∙ ap (λ (z : ℤ). z +ℤ pos 1) (to_z-of_z w64 last last_fits))
    (c.later_choices.ensures.high ∙ ap (λ (z : ℤ). z +ℤ pos c.args.rounds -ℤ pos 1) (to_z-of_z w64 first first_fits))
