use Rattle.round_service.proofs.TestSets.{loop_rules, copy_known}
use Rattle.round_service.proofs.numbered_tests.loop_problem.Goals as goal

pub alternatives-requires-clause-rules : goal.alternatives-requires-clause-rules
alternatives-requires-clause-rules g c = loop_rules c.in_ok-set.set c.in_ok-set.ensures

pub alternatives-requires-2-clause-rules : goal.alternatives-requires-2-clause-rules
alternatives-requires-2-clause-rules g c = loop_rules c.in_ok-set.set c.in_ok-set.ensures

pub alternatives-requires-3-clause-rules : goal.alternatives-requires-3-clause-rules
alternatives-requires-3-clause-rules g c = loop_rules c.in_ok-set.set c.in_ok-set.ensures

pub diffs_of-requires-clause-rules : goal.diffs_of-requires-clause-rules
diffs_of-requires-clause-rules g c = loop_rules c.in_ok-set.set c.in_ok-set.ensures

pub diffs_of-requires-clause-copy : goal.diffs_of-requires-clause-copy
diffs_of-requires-clause-copy g c = copy_known c.in_ok-set.set c.in_ok-set.ensures
