use Rattle.std.proofs.Common.{◌≡◌, List, map, take, drop, ◌++◌, length, slice_index_or, slice_set, ap, sym, ◌∙◌, subst, add-one, arith}
use Rattle.std.proofs.lemmas.Int.{to_z-of_z}
use Rattle.world_core.specs.declared.state.State.{State}
use Rattle.world_core.specs.NodeStates.{no_state, after_ticks, MayPassNow}
use Rattle.world_core.proofs.NodeLoops.{mapped_next, unmapped_place, all_mapped}
use Rattle.world_core.proofs.medium.pass.Goals as goal

-- the node at hand is as it was
node_is : (c : goal.After-node-item) → slice_index_or c.loop-node.node-items c.loop-node.node-index c.node-item.result ≡ slice_index_or c.args.nodes.now c.loop-node.node-index no_state
node_is c =
    ap (λ (l : List State). slice_index_or l c.loop-node.node-index c.node-item.result) (simp (to_z-of_z, c.ranges.ticks) at c.loop-node.invariant)
    ∙ unmapped_place (λ n. after_ticks n c.args.ticks) c.loop-node.node-index c.args.nodes.now c.node-item.result no_state c.loop-node-test.true

pub pass-requires : goal.pass-requires
pass-requires c =
    simp (to_z-of_z, c.ranges.ticks) (subst (λ n. MayPassNow n c.args.ticks) (sym (node_is c)) (c.requires c.loop-node.node-index c.loop-node-test.true))

pub loop-node-preserved : goal.loop-node-preserved
loop-node-preserved c =
    simp (to_z-of_z, c.ranges.ticks, add-one) (
    ap (λ (l : List State). slice_set l c.loop-node.node-index c.pass.new.self) (simp (to_z-of_z, c.ranges.ticks) at c.loop-node.invariant)
    ∙ mapped_next (λ n. after_ticks n c.args.ticks) c.loop-node.node-index c.args.nodes.now no_state c.pass.new.self c.loop-node-test.true
    (simp (to_z-of_z, c.ranges.ticks) at c.pass.ensures ∙ ap (λ n. after_ticks n c.args.ticks) (node_is c.before)))

pub returns : goal.returns
returns c =
    let all : c.loop-node.node-index ≡ length c.args.nodes.now = omega (arith, c.loop-node-test.false, c.loop-node.auto.node-index-end) in
    (simp (to_z-of_z, c.ranges.ticks) at c.loop-node.invariant)
    ∙ ap (λ i. map (λ n. after_ticks n c.args.ticks) (take i c.args.nodes.now) ++ drop i c.args.nodes.now) all
    ∙ all_mapped (λ n. after_ticks n c.args.ticks) c.args.nodes.now
