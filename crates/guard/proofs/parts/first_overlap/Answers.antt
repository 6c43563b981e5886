use Rattle.std.proofs.Common.{◌*◌, ◌/◌, ap}
use Rattle.guard.proofs.GuardLemmas.{first_open, last_open}
use Rattle.guard.proofs.parts.first_overlap.Goals as goal

pub returns-then-first-round : goal.returns-then-first-round
returns-then-first-round c =
    first_open c.args.round c.requires.round c.args.guard (c.args.guard * 1000000 / (c.part_ticks-part.result * c.args.round.drift)) c.requires.room
    (ap (λ n. c.args.guard * 1000000 / (n * c.args.round.drift)) c.part_ticks-part.ensures.value) c.if-first-round.true

pub returns-else-first-round : goal.returns-else-first-round
returns-else-first-round c =
    last_open c.args.round c.requires.round c.args.guard (c.args.guard * 1000000 / (c.part_ticks-part.result * c.args.round.drift))
    (ap (λ n. c.args.guard * 1000000 / (n * c.args.round.drift)) c.part_ticks-part.ensures.value) c.if-first-round.false
