use Rattle.std.proofs.Common.{◌≡◌, ◌++◌, map, Some}
use Rattle.world_core.proofs.tests.all_schedules.Given as goal

abbrev pub invariant-loop-plan : goal.invariant-loop-plan
invariant-loop-plan l = map Some l.schedules.items ++ l.plan-iterator.rest.items ≡ l.fn.plans
