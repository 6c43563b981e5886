use Rattle.sched_model.proofs.TestLaws.{loop_shape}
use Rattle.sched_model.proofs.verdict_tests.verdict.Goals as goal

pub verify-requires-clause-shape : goal.verify-requires-clause-shape
verify-requires-clause-shape c = loop_shape c.args.set.now c.in_ok-s.s c.requires c.in_ok-s.ensures
