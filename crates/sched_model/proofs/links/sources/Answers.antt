use Rattle.sched_model.proofs.Sources.{no_edge, edge_more}
use Rattle.sched_model.proofs.links.sources.Goals as goal

pub loop-edge-init : goal.loop-edge-init
loop-edge-init c = λ m e links. no_edge m c.args.count c.args.target e c.requires.target c.requires.count

pub loop-edge-preserved : goal.loop-edge-preserved
loop-edge-preserved c = λ m e links.
    edge_more m c.args.count c.args.target c.loop-edge._edge c.args.links.now c.loop-edge.marked _ c.back-marked.result e links
    (no_edge m c.args.count c.args.target e c.requires.target c.requires.count) (c.loop-edge.invariant m e links) c.back-marked.ensures
