use Rattle.std.proofs.Common.{length}
use Rattle.world_core.specs.TestWorlds.{IsOfSet}
use Rattle.world_core.proofs.tests.play.Given as goal

-- the world stays one of the set
abbrev pub invariant-loop-event : goal.invariant-loop-event
invariant-loop-event g l = IsOfSet l.set (length l.bodies.items) l.world
