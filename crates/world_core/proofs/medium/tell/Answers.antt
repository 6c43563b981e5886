use Rattle.std.proofs.Common.{◌≡◌, ◌<◌, ◌^◌, ◌+◌, ℕ, Bool, List, cond, slice_index_or, slice_set, refl, ap, sym, ◌∙◌, subst, add-one}
use Rattle.runtime_model.specs.Packets.{reached}
use Rattle.world_core.specs.declared.state.State.{State}
use Rattle.world_core.specs.Nodes.{at, heard_or_missed}
use Rattle.world_core.specs.NodeStates.{no_state}
use Rattle.world_core.proofs.NodeLoops.{place_unwritten, written_next, bits_next, bits_below}
use Rattle.world_core.proofs.medium.tell.Goals as goal

pub with_node-heard-requires-clause-below : goal.with_node-heard-requires-clause-below
with_node-heard-requires-clause-below c =
    subst (λ bits. bits < 2 ^ c.loop-v.v) (sym (c.loop-v.invariant.1)) (bits_below (reached c.args.lost c.args.host) c.loop-v.v)

pub loop-v-preserved : goal.loop-v-preserved
loop-v-preserved c =
    let hears = reached c.args.lost c.args.host in
    let told : ℕ → State = λ v. heard_or_missed (hears v) c.args.beacon (at c.args.nodes.now v) in
    let v = c.loop-v.v in
    let node : slice_index_or c.loop-v.nodes v c.index-nodes-v.result ≡ at c.args.nodes.now v =
    ap (λ (l : List State). slice_index_or l v c.index-nodes-v.result) (c.loop-v.invariant.0)
    ∙ place_unwritten told v c.args.nodes.now c.index-nodes-v.result no_state c.loop-v-test.true in
    let is_told : c.tell.new.self ≡ told v =
    c.tell.ensures
    ∙ ap (λ (h : Bool). heard_or_missed h c.args.beacon (slice_index_or c.loop-v.nodes v c.index-nodes-v.result)) c.reaches-hears.ensures
    ∙ ap (λ (n : State). heard_or_missed (hears v) c.args.beacon n) node in
    rw add-one (
      ap (λ (l : List State). slice_set l v c.tell.new.self) (c.loop-v.invariant.0)
          ∙ written_next told v c.args.nodes.now no_state c.tell.new.self c.loop-v-test.true is_told,
      c.with_node-heard.ensures
          ∙ ap (λ (h : Bool). c.loop-v.heard + cond h (2 ^ v) 0) c.reaches-hears.ensures
          ∙ ap (λ (bits : ℕ). bits + cond (hears v) (2 ^ v) 0) (c.loop-v.invariant.1)
          ∙ sym (bits_next hears v (hears v) refl),
    )
