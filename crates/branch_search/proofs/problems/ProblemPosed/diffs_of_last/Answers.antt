use Rattle.std.proofs.Common.{subst, sym, All}
use Rattle.sched_model.specs.ConstraintProblem.{vars}
use Rattle.branch_search.specs.Walking.{Fits}
use Rattle.branch_search.proofs.ProblemBounds.{last_fits}
use Rattle.branch_search.proofs.problems.ProblemPosed.diffs_of_last.Goals as goal

pub returns-clause-fits : goal.returns-clause-fits
returns-clause-fits c =
    subst (All (Fits (vars c.args.self.now.mode c.args.self.now.rounds))) (sym c.diffs_of_last.ensures)
    (last_fits c.args.self.now.mode c.args.self.now.rounds c.vars-fits.ensures.fits c.args.prefix.now c.requires.some c.requires.few c.requires.chosen)
