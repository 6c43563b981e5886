use Rattle.std.proofs.Common.{◌≡◌}
use Rattle.std.specs.Prelude.{filter}
use Rattle.sched_model.specs.Numbers.{below}
use Rattle.runtime_model.specs.Packets.{reached}
use Rattle.world_core.specs.Happened.{bits_of}
use Rattle.world_core.specs.Nodes.{at, heard_or_missed}
use Rattle.world_core.proofs.NodeLoops.{so_far}
use Rattle.world_core.proofs.medium.tell.Given as goal

-- the nodes so far were told, and those of them that heard it are in the set
abbrev pub invariant-loop-v : goal.invariant-loop-v
invariant-loop-v l =
    (l.nodes ≡ so_far (λ v. heard_or_missed (reached l.lost l.host v) l.beacon (at l.fn.nodes v)) l.v l.fn.nodes)
    × (l.heard ≡ bits_of (filter (reached l.lost l.host) (below l.v)))
