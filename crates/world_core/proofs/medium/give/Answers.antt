use Rattle.std.proofs.Common.{◌≡◌, ◌<◌, ◌^◌, ◌+◌, ◌&&◌, ℕ, Bool, List, cond, slice_index_or, slice_set, refl, ap, sym, ◌∙◌, subst, add-one}
use Rattle.runtime_model.specs.Packets.{reached}
use Rattle.world_core.specs.declared.state.State.{State}
use Rattle.world_core.specs.Nodes.{at}
use Rattle.world_core.specs.NodeStates.{no_state, after_packet, takes_now}
use Rattle.world_core.proofs.NodeLoops.{place_unwritten, written_next, bits_next, bits_below}
use Rattle.world_core.proofs.medium.give.Goals as goal

pub with_node-taken-requires-clause-below : goal.with_node-taken-requires-clause-below
with_node-taken-requires-clause-below c =
    subst (λ bits. bits < 2 ^ c.loop-v.v) (sym (c.loop-v.invariant.1))
    (bits_below (λ v. reached c.args.lost c.args.sender v && takes_now (at c.args.nodes.now v) c.args.slot) c.loop-v.v)

pub loop-v-preserved : goal.loop-v-preserved
loop-v-preserved c =
    let reach = reached c.args.lost c.args.sender in
    let given : ℕ → State = λ v. cond (reach v) (after_packet (at c.args.nodes.now v) c.args.slot c.args.packet.now) (at c.args.nodes.now v) in
    let takes : ℕ → Bool = λ v. reach v && takes_now (at c.args.nodes.now v) c.args.slot in
    let v = c.loop-v.v in
    let node : slice_index_or c.loop-v.nodes v c.index-nodes-v.result ≡ at c.args.nodes.now v =
    ap (λ (l : List State). slice_index_or l v c.index-nodes-v.result) (c.loop-v.invariant.0)
    ∙ place_unwritten given v c.args.nodes.now c.index-nodes-v.result no_state c.loop-v-test.true in
    let is_given : c.offer-takes.new.self ≡ given v =
    c.offer-takes.ensures.state
    ∙ ap (λ (h : Bool). cond h (after_packet (slice_index_or c.loop-v.nodes v c.index-nodes-v.result) c.args.slot c.args.packet.now) (slice_index_or c.loop-v.nodes v c.index-nodes-v.result)) c.reaches.ensures
    ∙ ap (λ (n : State). cond (reach v) (after_packet n c.args.slot c.args.packet.now) n) node in
    let is_taken : c.offer-takes.result ≡ takes v =
    c.offer-takes.ensures.taken
    ∙ ap (λ (h : Bool). h && takes_now (slice_index_or c.loop-v.nodes v c.index-nodes-v.result) c.args.slot) c.reaches.ensures
    ∙ ap (λ (n : State). reach v && takes_now n c.args.slot) node in
    rw add-one (
      ap (λ (l : List State). slice_set l v c.offer-takes.new.self) (c.loop-v.invariant.0)
          ∙ written_next given v c.args.nodes.now no_state c.offer-takes.new.self c.loop-v-test.true is_given,
      c.with_node-taken.ensures
          ∙ ap (λ (h : Bool). c.loop-v.taken + cond h (2 ^ v) 0) is_taken
          ∙ ap (λ (bits : ℕ). bits + cond (takes v) (2 ^ v) 0) (c.loop-v.invariant.1)
          ∙ sym (bits_next takes v (takes v) refl),
    )
