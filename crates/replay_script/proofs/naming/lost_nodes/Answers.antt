use Rattle.std.proofs.Common.{◌≡◌, ◌<◌, ◌∙◌, ℕ, List, length, get_or, sym, ap, subst}
use Rattle.app_graph.specs.ValueRules.{among}
use Rattle.app_graph.proofs.Marks.{mask_more_no}
use Rattle.replay_script.proofs.Bits.{one_more}
use Rattle.replay_script.proofs.naming.lost_nodes.Goals as goal
use Rattle.replay_script.proofs.naming.lost_nodes.Goals.{then-is_named, else-is_named}

pub loop-place-preserved : goal.loop-place-preserved
loop-place-preserved c =
    let named = λ (node : List ℕ). among node c.args.names.now in
    let nodes = c.args.set.now.nodes in
    let i = c.loop-place.place in
    let node = c.node-item.result in
    let same = c.as_slice-node-items.ensures in
    let below : i < length nodes = subst (λ (xs : List (List ℕ)). i < length xs) same c.loop-place-test.true in
    let node_is : node ≡ get_or nodes i node = c.node-item.is ∙ ap (λ (xs : List (List ℕ)). get_or xs i node) same in
    elim c.if-is_named.branch [
      | then-is_named w ↦ w.bits-is ∙ one_more named nodes i node c.loop-place.bits below c.requires node_is (sym c.is_named.ensures ∙ w.if-is_named.true) c.loop-place.invariant
      | else-is_named w ↦ w.bits-is ∙ mask_more_no named nodes i node c.loop-place.bits below node_is (sym c.is_named.ensures ∙ w.if-is_named.false) c.loop-place.invariant
    ]
