use Rattle.std.proofs.Common.{◌≡◌, ◌<◌, length, ap, sym, ◌∙◌, subst}
use Rattle.world_core.specs.NodeStates.{no_state}
use Rattle.world_core.specs.Worlds.{WorldSeen, node_at}
use Rattle.world_core.specs.WorldSteps.{body_of}
use Rattle.world_core.specs.contracts.kept.Kept.{the_view}
use Rattle.world_core.proofs.NodeLoops.{at_is}
use Rattle.world_core.proofs.KeptLemmas.{put_node, seen_at, started, started_node}
use Rattle.world_core.proofs.kept.Kept.start.Goals as goal
use Rattle.world_core.proofs.kept.Kept.start.Given as given

-- the node and the place of the body are those of the task
node_is : (g : given.Over) (c : goal.Joined-start g) → c.index_mut.result.now ≡ node_at c.args.self.now c.args.node
node_is g c =
    sym (at_is c.self.inside.nodes.items c.args.node c.index_mut.result.now no_state
    (subst (λ (w : WorldSeen). c.args.node < length w.nodes) (sym c.self.view_is) c.requires.0) c.index_mut.ensures.value)
    ∙ ap (λ (w : WorldSeen). node_at w c.args.node) c.self.view_is

place_is : (g : given.Over) (c : goal.Joined-start g) → c.index-place.result.now ≡ body_of c.args.self.now c.args.task
place_is g c =
    sym (at_is c.self.inside.places.items c.args.task c.index-place.result.now 0
    (subst (λ (w : WorldSeen). c.args.task < length w.places) (sym c.self.view_is) c.requires.1) c.index-place.ensures)
    ∙ ap (λ (w : WorldSeen). body_of w c.args.task) c.self.view_is

known : (g : given.Over) (c : goal.Joined-start g) → body_of c.args.self.now c.args.task < length c.args.bodies.now.items
known g c = c.requires.2

pub returns-clause-state : goal.returns-clause-state
returns-clause-state g c =
    let same = c.as_mut.ensures.value.1 in
    let was = (λ i. (goal.TaskBody-dyn g (same i)).seen (same i).1) ∙ seen_at _ c.args.bodies.now.items c.index-place.result.now (body_of c.args.self.now c.args.task) c.index_mut-2.result.now (place_is g c) (known g c) c.index_mut-2.ensures.value in
    put_node (the_view c.self.inside) c.args.self.now c.args.node c.start.new.self _ c.self.view_is
    (c.start.ensures.state
    ∙ started_node _ c.args.bodies.now.items (body_of c.args.self.now c.args.task) c.index_mut.result.now (node_at c.args.self.now c.args.node) c.args.task _ (node_is g c) was)

pub returns-clause-bodies : goal.returns-clause-bodies
returns-clause-bodies g c =
    let same = c.as_mut.ensures.value.1 in
    started _ c.args.bodies.now.items c.index-place.result.now (body_of c.args.self.now c.args.task) _ c.index_mut.result.now (node_at c.args.self.now c.args.node) c.args.task _
    (node_is g c) (place_is g c)
    ((λ i. (goal.TaskBody-dyn g (same i)).seen (same i).1)
    ∙ seen_at _ c.args.bodies.now.items c.index-place.result.now (body_of c.args.self.now c.args.task) c.index_mut-2.result.now (place_is g c) (known g c) c.index_mut-2.ensures.value)
    c.start.ensures.body
