use Rattle.std.proofs.Common.{◌≡◌, length, map}
use Rattle.sched_model.specs.Numbers.{below}
use Rattle.runtime_model.specs.Plans.{plan_of}
use Rattle.world_core.specs.Cycle.{kept_cycle}
use Rattle.world_core.proofs.cycle.cycles.Given as goal

abbrev pub invariant-loop-mode : goal.invariant-loop-mode
invariant-loop-mode l = l.cycles.items ≡ map (λ i. kept_cycle (length l.set.nodes) (plan_of l.set l.plans i)) (below l.mode)
