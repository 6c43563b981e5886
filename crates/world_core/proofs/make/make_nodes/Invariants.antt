use Rattle.std.proofs.Common.{◌≡◌, map}
use Rattle.sched_model.specs.Numbers.{below}
use Rattle.runtime_model.specs.Plans.{plans_of}
use Rattle.world_core.specs.Making.{listener}
use Rattle.world_core.proofs.make.make_nodes.Given as goal

abbrev pub invariant-loop-node : goal.invariant-loop-node
invariant-loop-node l = l.nodes.items ≡ map (listener (plans_of l.set l.plans)) (below l.node)
