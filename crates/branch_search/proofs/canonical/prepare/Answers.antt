use Rattle.std.proofs.Common.{arith}
use Rattle.constraint_set.proofs.Tallies.{tally_none}
use Rattle.branch_search.proofs.canonical.prepare.Goals as goal

pub returns-clause-tally : goal.returns-clause-tally
returns-clause-tally g c = tally_none (g.P.Posed.mode c.args.problem.now) (g.P.Posed.rounds c.args.problem.now) c.in_ok-loads.loads _ _ c.in_ok-loads.ensures c.rounds.ensures.count c.decisions-2.ensures.count

pub returns-clause-counted : goal.returns-clause-counted
returns-clause-counted g c =
    let r = g.P.Posed.rounds c.args.problem.now in
    (c.costs_exist.ensures (g.P.Posed.mode c.args.problem.now) c.rounds.ensures.valid).0 r (omega (arith, c.rounds.ensures.some, c.rounds.ensures.count))
