use Rattle.std.proofs.Common.{sym, subst, length}
use Rattle.diff_solver.specs.Causes.{ComesRound}
use Rattle.diff_solver.proofs.Back.{comes_round}
use Rattle.diff_solver.proofs.cycles.close.Goals as goal

pub write_back-requires-clause-round : goal.write_back-requires-clause-round
write_back-requires-clause-round c =
    let n = length c.args.causes.now in
    subst (ComesRound c.args.list.now c.args.causes.now n) (sym c.walk_back-end.ensures.reached) (comes_round c.args.list.now c.args.causes.now n c.args.from c.requires.range c.requires.from c.requires.back)
