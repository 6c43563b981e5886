use Rattle.std.proofs.Common.{arith}
use Rattle.branch_search.proofs.ProblemBounds.{decisions_few}
use Rattle.branch_search.proofs.problems.ProblemPosed.decisions.Goals as goal

pub returns-clause-few : goal.returns-clause-few
returns-clause-few c = omega (arith, c.decisions.ensures, decisions_few c.args.self.now.mode c.args.self.now.rounds c.vars-fits.ensures.fits)
