use Rattle.std.proofs.Common.{◌≡◌, is_some, Some, ap, sym, ◌∙◌, arith}
use Rattle.world_core.specs.declared.state.State.{State}
use Rattle.world_core.specs.Nodes.{at}
use Rattle.world_core.specs.NodeStates.{no_state, sent_now}
use Rattle.world_core.proofs.NodeLoops.{none_sends, first_sends, at_is}
use Rattle.world_core.proofs.medium.first_sending.Goals as goal

pub returns-in-Some : goal.returns-in-Some
returns-in-Some c =
    let sends : sent_now (at c.args.nodes.now c.loop-v.v) c.args.slot ≡ Some c.in-Some.packet =
    ap (λ (n : State). sent_now n c.args.slot) (at_is c.args.nodes.now c.loop-v.v c.index-nodes-v.result no_state c.loop-v-test.true c.index-nodes-v.is) ∙ sym c.in-Some.ensures in (
      first_sends (λ n. is_some (sent_now n c.args.slot)) c.args.nodes.now no_state c.loop-v.v c.loop-v-test.true
          (λ u l. ap is_some (c.loop-v.invariant u l)) (ap is_some sends),
      sends,
    )

pub returns : goal.returns
returns c =
    none_sends (λ n. is_some (sent_now n c.args.slot)) c.args.nodes.now no_state
    (λ u l. ap is_some (c.loop-v.invariant u (omega (arith, l, c.loop-v-test.false))))
