use Rattle.std.proofs.Common.{length, sym, ◌∙◌, ap}
use Rattle.constraint_set.specs.Decided.{decision_of}
use Rattle.constraint_set.proofs.Bounded.{at_order}
use Rattle.constraint_set.proofs.choices.alternatives_at.Goals as goal

pub pair_alternatives-requires-clause-first : goal.pair_alternatives-requires-clause-first
pair_alternatives-requires-clause-first c = (at_order c.args.frame.now (length c.args.prefix.now) c.in-Order.first c.in-Order.second c.requires.more (ap decision_of (sym c.in-Order.is) ∙ c.requires.decision)).0

pub pair_alternatives-requires-clause-second : goal.pair_alternatives-requires-clause-second
pair_alternatives-requires-clause-second c = (at_order c.args.frame.now (length c.args.prefix.now) c.in-Order.first c.in-Order.second c.requires.more (ap decision_of (sym c.in-Order.is) ∙ c.requires.decision)).1
