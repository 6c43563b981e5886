use Rattle.node_use.proofs.NumberedPairs.{short_rules, place_known}
use Rattle.node_use.proofs.numbered_tests.pair_alternatives.Goals as goal

pub alternatives-requires-clause-rules : goal.alternatives-requires-clause-rules
alternatives-requires-clause-rules g c = short_rules c.in_ok-set.set c.in_ok-set.ensures

pub diffs_of-requires-clause-rules : goal.diffs_of-requires-clause-rules
diffs_of-requires-clause-rules g c = short_rules c.in_ok-set.set c.in_ok-set.ensures

pub diffs_of-requires-clause-place : goal.diffs_of-requires-clause-place
diffs_of-requires-clause-place g c = place_known c.in_ok-set.set c.in_ok-set.ensures
