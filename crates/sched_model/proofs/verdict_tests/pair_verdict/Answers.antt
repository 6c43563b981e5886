use Rattle.sched_model.proofs.TestLaws.{shared_shape}
use Rattle.sched_model.proofs.verdict_tests.pair_verdict.Goals as goal

pub verify-requires-clause-shape : goal.verify-requires-clause-shape
verify-requires-clause-shape c = shared_shape c.args.set.now c.in_ok-s.s c.requires c.in_ok-s.ensures.planned c.in_ok-s.ensures.empty
