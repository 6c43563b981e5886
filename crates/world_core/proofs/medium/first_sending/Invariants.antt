use Rattle.std.proofs.Common.{◌≡◌, ℕ, ◌<◌, None}
use Rattle.world_core.specs.Nodes.{at}
use Rattle.world_core.specs.NodeStates.{sent_now}
use Rattle.world_core.proofs.medium.first_sending.Given as goal

-- no node so far sends
abbrev pub invariant-loop-v : goal.invariant-loop-v
invariant-loop-v l = (u : ℕ) → u < l.v → sent_now (at l.nodes u) l.slot ≡ None
