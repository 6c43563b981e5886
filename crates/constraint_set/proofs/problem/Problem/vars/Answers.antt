use Rattle.std.proofs.Common.{subst}
use Rattle.sched_model.specs.ProblemLimits.{ProblemFits}
use Rattle.sched_model.proofs.Lengths.{problem_fits}
use Rattle.constraint_set.specs.Posed.{Posed}
use Rattle.constraint_set.proofs.problem.Problem.vars.Goals as goal

pub returns-clause-fits : goal.returns-clause-fits
returns-clause-fits c =
    let inv = c.self.invariant in
    subst (λ (p : Posed). ProblemFits p.mode p.rounds) c.self.view_is (problem_fits _ _ c.kept.ensures.valid c.kept.ensures.limits c.get.ensures.some inv.most)
