use Rattle.world_core.proofs.TestWorldLemmas.{made_of_set}
use Rattle.world_core.proofs.tests.make.Goals as goal

pub make-requires-clause-bodies : goal.make-requires-clause-bodies
make-requires-clause-bodies g c = c.missing_body.ensures.complete.0 c.in-None.is

pub returns-in_ok-make-in-None : goal.returns-in_ok-make-in-None
returns-in_ok-make-in-None g c = made_of_set _ c.args.bodies.now.items c.args.set.now c.args.plans.now _ c.in_ok-make-in-None.ensures (c.missing_body.ensures.complete.0 c.in-None.is)
