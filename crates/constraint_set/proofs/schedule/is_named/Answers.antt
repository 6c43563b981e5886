use Rattle.std.proofs.Common.{◌+◌, ◌-◌, ◌%◌, ℤ, eqb, get_or, pos, sym, ◌∙◌, ap, arith, rules, w64, FitsSigned}
use Rattle.std.proofs.lemmas.Int.{to_z-of_z}
use Rattle.std.proofs.lemmas.Bool.{eq-eqb}
use Rattle.sched_model.specs.Numbers.{natural}
use Rattle.sched_model.proofs.Tests.{passes_below}
use Rattle.constraint_set.proofs.schedule.is_named.Goals as goal

pub returns-then-place_of_round-round : goal.returns-then-place_of_round-round
returns-then-place_of_round-round c =
    let v = get_or c.args.choices.now (c.args.first + c.loop-k.k) (pos 0) in
    let fits : FitsSigned w64 v = search rules in
    sym (passes_below (λ k. eqb ((natural (get_or c.args.choices.now (c.args.first + k) (pos 0)) - 1) % c.args.rounds) c.args.round) c.args.count c.loop-k.k (omega arith)
    (eq-eqb _ _ (ap (λ (z : ℤ). (natural z - 1) % c.args.rounds) (sym (to_z-of_z w64 v fits)) ∙ sym c.place_of_round.ensures ∙ c.if-place_of_round-round.true)))
