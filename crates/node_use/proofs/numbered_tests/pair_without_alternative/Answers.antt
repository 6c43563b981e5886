use Rattle.node_use.proofs.NumberedPairs.{long_rules}
use Rattle.node_use.proofs.numbered_tests.pair_without_alternative.Goals as goal

pub alternatives-low-requires-clause-rules : goal.alternatives-low-requires-clause-rules
alternatives-low-requires-clause-rules g c = long_rules c.in_ok-shared_set.field-0 c.in_ok-shared_set.ensures
