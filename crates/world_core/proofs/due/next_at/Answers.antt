use Rattle.std.proofs.lemmas.Nat.{mod_below}
use Rattle.world_core.proofs.DueLemmas.{never_soon, never_later}
use Rattle.world_core.proofs.due.next_at.Goals as goal

pub returns-then-past-place-clause-none : goal.returns-then-past-place-clause-none
returns-then-past-place-clause-none c = never_soon c.args.tick c.args.place c.args.period c.if-past-place.true c.requires.place

pub returns-else-past-place-clause-none : goal.returns-else-past-place-clause-none
returns-else-past-place-clause-none c = never_later c.args.tick c.args.place c.args.period c.if-past-place.false (mod_below c.args.tick c.args.period c.requires.period.0)
