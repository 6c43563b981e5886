use Rattle.std.proofs.Common.{arith, ap, length, List}
use Rattle.tick_num.specs.declared.differences.Diff.{Diff}
use Rattle.branch_search.proofs.Forces.{before_length}
use Rattle.branch_search.proofs.forcing.count_before_last.Goals as goal

pub returns : goal.returns
returns g c =
    let some = c.if-prefix-eq0.false in
    omega (arith, before_length (g.P.Posed.mode c.args.problem.now) (g.P.Posed.rounds c.args.problem.now) c.args.prefix.now c.requires (omega (arith, some)), ap (λ (ds : List Diff). length ds) c.base.ensures.list)
