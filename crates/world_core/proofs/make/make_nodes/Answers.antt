use Rattle.runtime_model.specs.Plans.{plans_of}
use Rattle.world_core.specs.Making.{listener}
use Rattle.world_core.proofs.EntryLists.{map_push}
use Rattle.world_core.proofs.make.make_nodes.Goals as goal

pub loop-node-preserved : goal.loop-node-preserved
loop-node-preserved c =
    map_push (listener (plans_of c.args.set.now c.args.plans.now)) c.loop-node.node c.loop-node.nodes.items c.push.new.self.items c.in_ok-make_node.field-0
    c.loop-node.invariant c.in_ok-push.ensures.items c.in_ok-make_node.ensures
