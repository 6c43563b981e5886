use Rattle.std.proofs.Common.{List, [], sym, subst, ◌∙◌, ℤ}
use Rattle.constraint_set.proofs.Tallies.{tally_none}
use Rattle.cert_checker.specs.TreeStack.{Stands}
use Rattle.cert_checker.proofs.Levels.{stands_none}
use Rattle.cert_checker.proofs.walk.Walk.begin.Goals as goal

pub returns-clause-kept : goal.returns-clause-kept
returns-clause-kept c =
    let m = c.args.problem.mode in
    let r = c.args.problem.rounds in
    let held = c.in_ok-constraints.constraints.items in
    let loads = c.in_ok-loads.loads in
    subst (λ (p : List ℤ). Stands m r p c.new-2.result.items held loads) (sym c.new.ensures.items)
    (subst (λ (g : List ℤ). Stands m r [] g held loads) (sym c.new-2.ensures.items)
    (stands_none m r held loads (c.in_ok-constraints.ensures.items ∙ c.base.ensures) (tally_none m r loads _ _ c.in_ok-loads.ensures c.rounds.ensures.count c.decisions.ensures)))
