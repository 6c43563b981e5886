use Rattle.std.proofs.Common.{◌≡◌, ◌/◌, ◌^◌, take, length}
use Rattle.std.specs.List.{flat_map}
use Rattle.sched_model.specs.Numbers.{below}
use Rattle.ttw_io.proofs.BufferLemmas.{Putting}
use Rattle.replayer.proofs.NodeTexts.{node_part}
use Rattle.replayer.proofs.line.put_nodes.Given as goal

abbrev pub invariant-loop-node : goal.invariant-loop-node
invariant-loop-node g l =
    Putting (g.S.Sink.held l.initial.out) (g.S.Sink.held l.out) l.initial.buffer l.buffer
    (g.S.Sink.faults l.initial.out) (g.S.Sink.faults l.out) (g.S.Sink.flushes l.initial.out) (g.S.Sink.flushes l.out)
    (flat_map (node_part l.names l.nodes) (take l.node (below (length l.names.nodes))))
    × (l.left ≡ l.nodes / 2 ^ l.node)
