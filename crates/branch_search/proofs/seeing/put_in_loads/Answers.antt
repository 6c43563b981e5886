use Rattle.std.proofs.Common.{◌-◌, length, get_or, refl, ap, ◌∙◌, arith, rules, ℤ, FitsSigned, w64}
use Rattle.std.proofs.lemmas.Int.{to_z-of_z}
use Rattle.sched_model.specs.ConstraintProblem.{order, decisions}
use Rattle.constraint_set.specs.Loads.{round_of}
use Rattle.branch_search.specs.Stacks.{at_}
use Rattle.branch_search.proofs.Tallies.{tally_put}
use Rattle.branch_search.proofs.seeing.put_in_loads.Goals as goal

pub returns : goal.returns
returns g c =
    let m = g.P.Posed.mode c.args.problem.now in
    let r = g.P.Posed.rounds c.args.problem.now in
    let p = c.args.prefix.now in
    let k = length p - 1 in
    let fits : FitsSigned w64 (at_ p k) = search rules in
    tally_put m r p k c.args.loads.now c.keep_first-2.new.self c.count.new.self c.round_of.result c.requires.few (omega (arith, c.if-prefix-eq0.false)) refl c.requires.tally c.keep_first-2.ensures c.count.ensures
    (c.round_of.ensures.round ∙ ap (λ (z : ℤ). round_of r (get_or (decisions m) k (order 0 0)) z) (to_z-of_z w64 (at_ p k) fits))
