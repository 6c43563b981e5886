use Rattle.std.proofs.Common.{◌≡◌, ◌<◌, ℤ, to_z, of_z, sym, ◌∙◌, ap, arith, rules, length, get_or, pos, w64, FitsSigned}
use Rattle.std.proofs.lemmas.Int.{to_z-of_z}
use Rattle.sched_model.specs.ConstraintProblem.{Decision, order}
use Rattle.constraint_set.specs.Decided.{names_round}
use Rattle.constraint_set.proofs.Loadings.{load_yes, load_no, load_end}
use Rattle.constraint_set.proofs.loads.load_of.Goals as goal
use Rattle.constraint_set.proofs.loads.load_of.Goals.{then-names_round, else-names_round}

pub loop-place-preserved : goal.loop-place-preserved
loop-place-preserved c =
    let v = get_or c.args.prefix.now c.loop-place.place (pos 0) in
    let fits : FitsSigned w64 v = search rules in
    let named : c.names_round.result ≡ names_round c.args.rounds c.args.round (get_or c.args.decisions.now c.loop-place.place (order 0 0)) v
    = c.names_round.ensures ∙ ap (λ (d : Decision). names_round c.args.rounds c.args.round d (to_z w64 (of_z w64 v))) c.at.ensures
    ∙ ap (λ (z : ℤ). names_round c.args.rounds c.args.round (get_or c.args.decisions.now c.loop-place.place (order 0 0)) z) (to_z-of_z w64 v fits) in
    let here : c.loop-place.place < length c.args.decisions.now = omega arith in
    elim c.if-names_round.branch [
      | then-names_round w ↦ (
          let y = load_yes c.args.rounds c.args.round c.args.decisions.now c.args.prefix.now c.loop-place.place c.loop-place.total _ here c.loop-place-test.true (sym named ∙ w.if-names_round.true) c.loop-place.invariant.rest in
          record { few = omega (arith, w.total-is, c.loop-place.invariant.few); rest = omega (arith, y, w.total-is) })
      | else-names_round w ↦ (
          let y = load_no c.args.rounds c.args.round c.args.decisions.now c.args.prefix.now c.loop-place.place c.loop-place.total _ here c.loop-place-test.true (sym named ∙ w.if-names_round.false) c.loop-place.invariant.rest in
          record { few = omega (arith, w.total-is, c.loop-place.invariant.few); rest = omega (arith, y, w.total-is) })
    ]

pub returns : goal.returns
returns c = load_end c.args.rounds c.args.round c.args.decisions.now c.args.prefix.now c.loop-place.place c.loop-place.total (omega arith) c.loop-place.invariant.rest
