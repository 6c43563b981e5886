use Rattle.std.proofs.Common.{arith}
use Rattle.constraint_set.proofs.TestSets.{loop_rules, some_rounds, may_choose, chosen_first}
use Rattle.constraint_set.proofs.tests.loop_problem.Goals as goal

pub make-requires-clause-rules : goal.make-requires-clause-rules
make-requires-clause-rules g c = loop_rules c.in_ok-set.set c.in_ok-set.ensures

pub make-requires-clause-most : goal.make-requires-clause-most
make-requires-clause-most g c = some_rounds c.in_ok-set.set 1 c.in_ok-set.ensures (omega arith)

pub chosen_diffs-requires-clause-value : goal.chosen_diffs-requires-clause-value
chosen_diffs-requires-clause-value g c = may_choose c.in_ok-set.set c.in_ok-problem.problem c.in_ok-set.ensures c.in_ok-problem.ensures

pub alternatives-requires-2-clause-chosen : goal.alternatives-requires-2-clause-chosen
alternatives-requires-2-clause-chosen g c = chosen_first c.in_ok-set.set c.in_ok-problem.problem c.in_ok-set.ensures c.in_ok-problem.ensures
