use Rattle.std.proofs.Common.{◌+◌, ℤ, List, [], Contains, to_z, of_z, w64, FitsSigned, sym, ◌∙◌, ap, subst, arith, rules}
use Rattle.std.proofs.lemmas.Int.{to_z-of_z}
use Rattle.sched_model.specs.PlainMode.{plain_at, task_at}
use Rattle.sched_model.specs.ConstraintProblem.{places}
use Rattle.sched_model.proofs.LimitedModes.{mode_at_limited}
use Rattle.node_use.specs.Between.{Shows, plain, between}
use Rattle.node_use.proofs.numbered.diffs_of.Goals as goal

pub overflow_add-rounds : goal.overflow_add-rounds
overflow_add-rounds c = omega (arith, c.task_place-first.ensures.within, c.requires.rounds, (mode_at_limited c.args.set.now c.requires.rules c.args.mode c.requires.first.1.mode).tasks)

pub overflow_add-rounds-2 : goal.overflow_add-rounds-2
overflow_add-rounds-2 c = omega (arith, c.task_place-second.ensures.within, c.requires.rounds, (mode_at_limited c.args.set.now c.requires.rules c.args.mode c.requires.first.1.mode).tasks)

pub order_diffs-requires-clause-place : goal.order_diffs-requires-clause-place
order_diffs-requires-clause-place c =
    let fits : FitsSigned w64 c.args.z = search rules in
    let m = plain_at c.args.set.now c.args.mode in
    let a = c.requires.first.0 in
    let b = c.requires.second.0 in
    let s = subst (λ x. Shows c.times_at-earlier.result (task_at m x)) (c.task_place-first.ensures.value a c.requires.first.1) c.times_at-earlier.ensures.shows in
    let t = subst (λ x. Shows c.times_at-later.result (task_at m x)) (c.task_place-second.ensures.value b c.requires.second.1) c.times_at-later.ensures.shows in
    let law = (c.pairs_are_decisions.ensures m c.args.rounds a b c.times_at-earlier.result c.times_at-later.result s t).0 [] in
    subst (λ (z : ℤ). Contains (places (plain c.times_at-earlier.result) (plain c.times_at-later.result)) z) (sym (to_z-of_z w64 c.args.z fits))
    (subst (λ (l : List ℤ). Contains l c.args.z) (sym law) (c.requires.place a b c.requires.first.1 c.requires.second.1))

pub returns : goal.returns
returns c = λ a b v w.
    let fits : FitsSigned w64 c.args.z = search rules in
    let m = plain_at c.args.set.now c.args.mode in
    let r = c.args.rounds in
    let x = c.times_at-earlier.result in
    let y = c.times_at-later.result in
    let ea = c.task_place-first.ensures.value a v in
    let eb = c.task_place-second.ensures.value b w in
    let s = subst (λ n. Shows x (task_at m n)) ea c.times_at-earlier.ensures.shows in
    let t = subst (λ n. Shows y (task_at m n)) eb c.times_at-later.ensures.shows in
    c.order_diffs.ensures
    ∙ ap (λ n. between (r + n) (r + c.task_place-second.result) (plain x) (plain y) (to_z w64 (of_z w64 c.args.z))) ea
    ∙ ap (λ n. between (r + a) (r + n) (plain x) (plain y) (to_z w64 (of_z w64 c.args.z))) eb
    ∙ ap (λ (z : ℤ). between (r + a) (r + b) (plain x) (plain y) z) (to_z-of_z w64 c.args.z fits)
    ∙ (c.pairs_are_decisions.ensures m r a b x y s t).1 c.args.z
