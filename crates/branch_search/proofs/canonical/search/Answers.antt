use Rattle.std.proofs.Common.{arith, ◌∙◌}
use Rattle.branch_search.proofs.Searches.{ready_first, spent_answer, refuted_answer, found_list, found_answer}
use Rattle.branch_search.proofs.canonical.search.Goals as goal

pub loop-visited-init : goal.loop-visited-init
loop-visited-init g c =
    ready_first (g.P.Posed.mode c.args.problem.now) (g.P.Posed.rounds c.args.problem.now) _ _ _ _ _ _ _ _ c.new.ensures.items c.new-2.ensures.items c.new-3.ensures.items c.new-4.ensures.items c.in_ok-bench.ensures.tally c.in_ok-bench.ensures.variables c.in_ok-bench.ensures.room

pub returns-in-Refuted : goal.returns-in-Refuted
returns-in-Refuted g c =
    let w = c.visit.new.walk in
    refuted_answer (g.P.Posed.mode c.args.problem.now) (g.P.Posed.rounds c.args.problem.now) c.loop-visited.walk.prefix.items w.prefix.items w.highs.items _ c.loop-visited.visited c.args.budget w.nodes.items w.refs.items c.in_ok-visit.field-0 c.refuted.result
    c.in_ok-visit.ensures.comes c.in-Refuted.is c.loop-visited.invariant.count (omega (arith, c.loop-visited-test.true)) c.refuted.ensures

pub returns : goal.returns
returns g c =
    let w = c.loop-visited.walk in
    let counted = c.in_ok-bench.ensures.counted in
    let more = spent_answer (g.P.Posed.mode c.args.problem.now) (g.P.Posed.rounds c.args.problem.now) w.prefix.items w.highs.items w.nodes.items w.refs.items c.loop-visited.visited c.loop-visited.invariant.standing c.loop-visited.invariant.count counted.0 counted.1 in
    (counted.0, counted.1, omega (arith, more, c.loop-visited-test.false))

pub values-requires : goal.values-requires
values-requires g c =
    let found = found_list (g.P.Posed.mode c.args.problem.now) (g.P.Posed.rounds c.args.problem.now) c.visit.new.walk.prefix.items c.visit.new.bench.store.list c.in_ok-visit.field-0 c.in_ok-visit.ensures.benched c.in-Found.is in
    found.1

pub returns-in-Found : goal.returns-in-Found
returns-in-Found g c =
    let m = g.P.Posed.mode c.args.problem.now in
    let r = g.P.Posed.rounds c.args.problem.now in
    let w = c.visit.new.walk in
    let found = found_list m r w.prefix.items c.visit.new.bench.store.list c.in_ok-visit.field-0 c.in_ok-visit.ensures.benched c.in-Found.is in
    found_answer m r c.loop-visited.walk.prefix.items w.prefix.items w.highs.items _ c.loop-visited.visited c.args.budget w.nodes.items w.refs.items c.visit.new.bench.store.list c.values.result.now c.in_ok-values-in-Found.values.items c.in_ok-visit.field-0 c.found.result
    c.in_ok-visit.ensures.comes found.0 c.values.ensures.least (c.values.ensures.size ∙ c.in_ok-visit.ensures.variables ∙ c.loop-visited.invariant.variables) c.in-Found.is c.loop-visited.invariant.count (omega (arith, c.loop-visited-test.true)) c.in_ok-values-in-Found.ensures.items c.found.ensures
