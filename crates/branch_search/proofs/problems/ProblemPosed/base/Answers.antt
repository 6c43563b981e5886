use Rattle.std.proofs.Common.{List, length, subst, sym, ◌≤◌, All}
use Rattle.tick_num.specs.declared.differences.Diff.{Diff}
use Rattle.sched_model.specs.ConstraintProblem.{vars}
use Rattle.branch_search.specs.Walking.{Fits}
use Rattle.branch_search.proofs.ProblemBounds.{base_few, base_fits}
use Rattle.branch_search.proofs.problems.ProblemPosed.base.Goals as goal

pub returns-clause-few : goal.returns-clause-few
returns-clause-few c = subst (λ (ds : List Diff). length ds ≤ 65536) (sym c.base.ensures) (base_few c.args.self.now.mode c.args.self.now.rounds c.vars-fits.ensures.fits)

pub returns-clause-fits : goal.returns-clause-fits
returns-clause-fits c = subst (All (Fits (vars c.args.self.now.mode c.args.self.now.rounds))) (sym c.base.ensures) (base_fits c.args.self.now.mode c.args.self.now.rounds c.vars-fits.ensures.fits)
