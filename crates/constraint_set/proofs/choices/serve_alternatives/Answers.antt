use Rattle.std.proofs.Common.{◌<◌, arith}
use Rattle.constraint_set.proofs.Bounded.{at_serve, before_later}
use Rattle.std.proofs.Common.{length}
use Rattle.constraint_set.proofs.choices.serve_alternatives.Goals as goal

pub first_alternatives-requires : goal.first_alternatives-requires
first_alternatives-requires c = (at_serve c.args.frame.now (length c.args.prefix.now) c.args.message c.args.copy c.requires.more c.requires.decision).0

pub later_alternatives-requires-clause-copy : goal.later_alternatives-requires-clause-copy
later_alternatives-requires-clause-copy c =
    let some : 0 < c.args.copy = omega arith in
    let b = before_later c.args.frame.now c.args.rounds c.kept.ensures.valid c.kept.ensures.limits c.get-some.ensures.some c.get-some.ensures.few c.args.prefix.now c.requires.more c.requires.chosen c.args.message c.args.copy some c.requires.decision in
    (omega arith, b.0)

pub later_alternatives-requires-clause-previous : goal.later_alternatives-requires-clause-previous
later_alternatives-requires-clause-previous c =
    let some : 0 < c.args.copy = omega arith in
    let b = before_later c.args.frame.now c.args.rounds c.kept.ensures.valid c.kept.ensures.limits c.get-some.ensures.some c.get-some.ensures.few c.args.prefix.now c.requires.more c.requires.chosen c.args.message c.args.copy some c.requires.decision in
    b.1

pub later_alternatives-requires-clause-first : goal.later_alternatives-requires-clause-first
later_alternatives-requires-clause-first c =
    let some : 0 < c.args.copy = omega arith in
    let b = before_later c.args.frame.now c.args.rounds c.kept.ensures.valid c.kept.ensures.limits c.get-some.ensures.some c.get-some.ensures.few c.args.prefix.now c.requires.more c.requires.chosen c.args.message c.args.copy some c.requires.decision in
    b.2
