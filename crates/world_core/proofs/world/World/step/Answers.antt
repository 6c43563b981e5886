use Rattle.world_core.proofs.DoneWhole.{goes_on_same}
use Rattle.world_core.proofs.world.World.step.Goals as goal

pub returns-clause-goes_on : goal.returns-clause-goes_on
returns-clause-goes_on g c = goes_on_same _ _ _ _ c.args.event c.with.result _ c.with.ensures c.step_with-done.ensures.goes_on
