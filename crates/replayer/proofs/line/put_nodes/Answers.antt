use Rattle.std.proofs.Common.{◌∙◌, ◌<◌, arith, length}
use Rattle.sched_model.specs.Numbers.{below}
use Rattle.sched_model.proofs.Lists.{length-below}
use Rattle.ttw_io.proofs.BufferLemmas.{front_more, front_same, has_put_front, puts_more, puts_same}
use Rattle.replayer.proofs.NodeTexts.{node_part, node_here, nodes_in_parts, next_bits, all_nodes}
use Rattle.replayer.proofs.line.put_nodes.Goals as goal

pub loop-node-preserved : goal.loop-node-preserved
loop-node-preserved g c =
    let set = c.args.names.now in
    let k = c.loop-node.node in
    let kept = c.loop-node.invariant.0 in
    let within : k < length (below (length set.nodes)) = omega (arith, length-below (length set.nodes), c.loop-node-test.true, c.nodes-node-end.ensures) in (
      record {
        puts = puts_more (node_part set c.args.nodes) _ _ _ _ c.loop-node.buffer _ (below (length set.nodes)) k 0 within kept.room kept.puts (puts_same _ _ _ _ _ _ (node_here set c.args.nodes c.loop-node.left k within c.loop-node.invariant.1) c.in_ok-put_node.ensures.put.ok);
        room = c.in_ok-put_node.ensures.put.room ∙ kept.room;
        counted = omega (arith, c.in_ok-put_node.ensures.sink.counted, kept.counted);
        same_flushes = c.in_ok-put_node.ensures.sink.same_flushes ∙ kept.same_flushes;
      },
      next_bits c.args.nodes c.loop-node.left k c.loop-node.invariant.1,
    )

pub returns-in_err-put_node-clause-put : goal.returns-in_err-put_node-clause-put
returns-in_err-put_node-clause-put g c =
    let set = c.args.names.now in
    let k = c.loop-node.node in
    let kept = c.loop-node.invariant.0 in
    let within : k < length (below (length set.nodes)) = omega (arith, length-below (length set.nodes), c.loop-node-test.true, c.nodes-node-end.ensures) in
    has_put_front c.from_residual.result _ _ c.args.buffer.now _ _ c.from_residual.ensures.0 (c.in_err-put_node.ensures.put.room ∙ kept.room)
    (front_same _ _ c.args.buffer.now.bytes _ _ (nodes_in_parts set c.args.nodes)
    (front_more (node_part set c.args.nodes) _ _ _ _ c.loop-node.buffer (below (length set.nodes)) k 0 within kept.puts
    (front_same _ _ _ _ _ (node_here set c.args.nodes c.loop-node.left k within c.loop-node.invariant.1) c.in_err-put_node.ensures.put.err)))

pub returns-clause-put : goal.returns-clause-put
returns-clause-put g c =
    let set = c.args.names.now in
    record {
      ok = puts_same _ _ c.args.buffer.now _ _ _ (all_nodes set c.args.nodes c.loop-node.node (omega (arith, c.loop-node-test.false, c.nodes-node-end.ensures))) c.loop-node.invariant.0.puts;
      err = tt;
      room = c.loop-node.invariant.0.room;
    }
