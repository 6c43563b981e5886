use Rattle.std.proofs.Common.{ap, ◌∙◌}
use Rattle.sched_model.specs.PlainMode.{plain_at}
use Rattle.constraint_set.specs.Posed.{Posed}
use Rattle.cert_checker.proofs.Modes.{tree_begins}
use Rattle.cert_checker.proofs.counts.begin_tree.Goals as goal

pub returns-clause-due : goal.returns-clause-due
returns-clause-due c =
    let is = c.in_ok-walk.ensures.problem ∙ c.in_ok-problem.ensures in
    λ o at. tree_begins c.in_ok-walk.walk (plain_at c.args.set.now c.args.mode) c.args.rounds o at c.in_ok-walk.ensures.empty (ap (λ (p : Posed). p.mode) is) (ap (λ (p : Posed). p.rounds) is)
