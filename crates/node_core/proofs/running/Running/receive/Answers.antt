use Rattle.std.proofs.Common.{◌≡◌, Some, sym, subst, ap, ◌∙◌, Option}
use Rattle.node_tables.specs.declared.tables.ModeTable.{ModeTable}
use Rattle.node_tables.specs.declared.tables.OwnRound.{OwnRound}
use Rattle.node_core.specs.contracts.running.Running.{the_view}
use Rattle.node_core.specs.Lookup.{mode_at, round_at, own_slot}
use Rattle.node_core.specs.Registers.{RegistersSeen}
use Rattle.node_core.specs.Running.{RunningNode}
use Rattle.node_core.specs.Rules.{message_in, takes_copy}
use Rattle.node_core.specs.Fits.{NodeFits}
use Rattle.node_core.specs.Conditions.{MayReceive}
use Rattle.node_core.proofs.KeptLimits.{taken_or_not}
use Rattle.node_core.proofs.MessageLemmas.{slot_message_fits}
use Rattle.node_core.proofs.running.Running.receive.Goals as goal
use Rattle.node_core.proofs.running.Running.receive.Goals.{After-receive-arg-1, After-receive}

-- the message is that of the slot
found_before : (c : After-receive-arg-1) → let m = c.mode_at-mode.result.now in
    message_in m (own_slot (round_at m c.self.inside.round) c.args.slot) ≡ Some c.in-Some-own_message.message.now
found_before c =
    ap (message_in c.mode_at-mode.result.now)
    (ap (λ (r : OwnRound). own_slot r c.args.slot) (sym c.round_at.ensures) ∙ sym c.in-Some.ensures)
    ∙ sym c.in-Some-own_message.ensures

found_after : (c : After-receive) → let m = mode_at c.self.inside.table c.self.inside.mode in
    message_in m (own_slot (round_at m c.self.inside.round) c.args.slot) ≡ Some c.in-Some-own_message.message.now
found_after c =
    subst (λ (m : ModeTable). message_in m (own_slot (round_at m c.self.inside.round) c.args.slot) ≡ Some c.in-Some-own_message.message.now) c.mode_at-mode.ensures
    (ap (message_in c.mode_at-mode.result.now)
    (ap (λ (r : OwnRound). own_slot r c.args.slot) (sym c.round_at.ensures) ∙ sym c.in-Some.ensures)
    ∙ sym c.in-Some-own_message.ensures)

pub receive-requires-clause-number : goal.receive-requires-clause-number
receive-requires-clause-number c =
    (slot_message_fits c.self.inside.table c.self.invariant.table c.self.inside.mode c.self.invariant.spot.mode_known c.mode_at-mode.result.now c.mode_at-mode.ensures
    (own_slot (round_at c.mode_at-mode.result.now c.self.inside.round) c.args.slot) c.in-Some-own_message.message.now (found_before c)).number

pub receive-requires-clause-few : goal.receive-requires-clause-few
receive-requires-clause-few c =
    (slot_message_fits c.self.inside.table c.self.invariant.table c.self.inside.mode c.self.invariant.spot.mode_known c.mode_at-mode.result.now c.mode_at-mode.ensures
    (own_slot (round_at c.mode_at-mode.result.now c.self.inside.round) c.args.slot) c.in-Some-own_message.message.now (found_before c)).few_consumers

pub invariant_of-self : goal.invariant_of-self
invariant_of-self c =
    let n = the_view c.self.inside in
    let m = c.in-Some-own_message.message.now in
    let may = subst (λ (n : RunningNode). MayReceive n c.args.slot c.args.packet.now) (sym c.self.view_is) c.requires in
    subst (λ (g : RegistersSeen). NodeFits (record n { registers = g })) (sym c.receive.ensures.registers)
    (taken_or_not n c.args.slot c.args.packet.now m (takes_copy c.self.inside.registers c.in-Some.own.now.copy m) c.self.invariant may (found_after c))
