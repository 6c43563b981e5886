use Rattle.std.proofs.Common.{◌≡◌, ◌++◌, map, take, drop}
use Rattle.world_core.specs.NodeStates.{after_ticks}
use Rattle.world_core.proofs.medium.pass.Given as goal

-- the ticks have passed at the nodes so far
abbrev pub invariant-loop-node : goal.invariant-loop-node
invariant-loop-node l = l.node-items ≡ map (λ n. after_ticks n l.ticks) (take l.node-index l.fn.nodes) ++ drop l.node-index l.fn.nodes
