use Rattle.std.proofs.Common.{sym}
use Rattle.node_core.proofs.MessageLemmas.{message_fits}
use Rattle.node_core.proofs.running.Running.slot.Goals as goal

pub packet_of-requires : goal.packet_of-requires
packet_of-requires c =
    message_fits c.self.inside.table c.self.invariant.table c.self.inside.mode c.self.invariant.spot.mode_known c.mode_at-mode.result.now c.mode_at-mode.ensures c.in-Some.own.now.message c.in-Some-own_message.message.now (sym c.in-Some-own_message.ensures)
