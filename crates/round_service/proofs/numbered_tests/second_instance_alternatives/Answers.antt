use Rattle.round_service.proofs.TestSets.{half_rules}
use Rattle.round_service.proofs.numbered_tests.second_instance_alternatives.Goals as goal

pub alternatives-requires-clause-rules : goal.alternatives-requires-clause-rules
alternatives-requires-clause-rules g c = half_rules c.in_ok-set.set c.in_ok-set.ensures

pub alternatives-requires-2-clause-rules : goal.alternatives-requires-2-clause-rules
alternatives-requires-2-clause-rules g c = half_rules c.in_ok-set.set c.in_ok-set.ensures
