use Rattle.std.proofs.Common.{◌≤◌, sym, ap, subst, arith}
use Rattle.sched_model.specs.PlainMode.{PlainMode, most_rounds}
use Rattle.constraint_set.proofs.problem.Problem.make.Goals as goal

pub new-rounds-requires-clause-few : goal.new-rounds-requires-clause-few
new-rounds-requires-clause-few c =
    let low = c.kept.ensures.limits.rounds in
    omega (arith, low, c.requires.most, ap (λ (m : PlainMode). most_rounds m) c.in_ok-frame.ensures)

pub invariant_of-result : goal.invariant_of-result
invariant_of-result c =
    let most = subst (λ (m : PlainMode). c.args.rounds ≤ most_rounds m) (sym c.in_ok-frame.ensures) c.requires.most in
    record {
      most = subst (λ r. r ≤ most_rounds c.in_ok-frame.frame) (sym c.new-rounds.ensures) most;
      chains = c.in_ok-chains.ensures;
      list = c.in_ok-base.ensures;
      all = c.in_ok-decisions.ensures;
    }
