use Rattle.std.proofs.Common.{◌≡◌, cond, ◌&&◌}
use Rattle.std.specs.Prelude.{filter}
use Rattle.sched_model.specs.Numbers.{below}
use Rattle.runtime_model.specs.Packets.{reached}
use Rattle.world_core.specs.Happened.{bits_of}
use Rattle.world_core.specs.Nodes.{at}
use Rattle.world_core.specs.NodeStates.{after_packet, takes_now}
use Rattle.world_core.proofs.NodeLoops.{so_far}
use Rattle.world_core.proofs.medium.give.Given as goal

-- the nodes so far got the packet, where it reached them, and those of them that took it are in the set
abbrev pub invariant-loop-v : goal.invariant-loop-v
invariant-loop-v l =
    (l.nodes ≡ so_far (λ v. cond (reached l.lost l.sender v) (after_packet (at l.fn.nodes v) l.slot l.packet) (at l.fn.nodes v)) l.v l.fn.nodes)
    × (l.taken ≡ bits_of (filter (λ v. reached l.lost l.sender v && takes_now (at l.fn.nodes v) l.slot) (below l.v)))
