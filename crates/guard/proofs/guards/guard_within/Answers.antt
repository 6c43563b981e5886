use Rattle.std.proofs.Common.{arith, ◌≤◌, ◌-◌, w64}
use Rattle.std.proofs.lemmas.Int.{to_z_pos}
use Rattle.guard.proofs.GuardLemmas.{some_guard, keeps, keeps_least, first_overlaps}
use Rattle.guard.proofs.guards.guard_within.Goals as goal

pub returns-then-part-ticks-clause-none : goal.returns-then-part-ticks-clause-none
returns-then-part-ticks-clause-none c = λ y k.
    let most = keeps_least c.args.round c.requires.round c.least_ticks-ticks.result c.least_ticks-ticks.ensures y k in
    omega (arith, most, k.room, c.if-part-ticks.true, c.requires.part)

pub returns-clause-some : goal.returns-clause-some
returns-clause-some c =
    let r = c.args.round in
    let y = c.least_ticks-ticks.result in
    let least = c.least_ticks-ticks.ensures in
    let some : 1 ≤ y = some_guard r c.requires.round y least.holds (omega (arith, c.if-part-ticks.false, c.requires.part)) in
    record {
      ticks = y;
      is = to_z_pos w64 y (omega (arith, c.if-part-ticks.false, c.ranges.part));
      some = some;
      keeps = keeps r c.requires.round y least (omega (arith, c.if-part-ticks.false, c.requires.part));
      least = keeps_least r c.requires.round y least;
      breaks = first_overlaps r c.requires.round y (y - 1) c.first_overlap-first.result.0 c.first_overlap-first.result.1 least (omega arith)
          (omega (arith, c.if-part-ticks.false, c.requires.part)) c.first_overlap-first.ensures;
    }
