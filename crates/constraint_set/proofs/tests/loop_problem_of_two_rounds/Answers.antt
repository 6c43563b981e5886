use Rattle.std.proofs.Common.{arith}
use Rattle.constraint_set.proofs.TestSets.{loop_rules, some_rounds}
use Rattle.constraint_set.proofs.tests.loop_problem_of_two_rounds.Goals as goal

pub make-requires-clause-rules : goal.make-requires-clause-rules
make-requires-clause-rules g c = loop_rules c.in_ok-set.set c.in_ok-set.ensures

pub make-requires-clause-most : goal.make-requires-clause-most
make-requires-clause-most g c = some_rounds c.in_ok-set.set 2 c.in_ok-set.ensures (omega arith)
