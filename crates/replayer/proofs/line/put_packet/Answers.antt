use Rattle.std.proofs.Common.{rules, FitsSigned, w64}
use Rattle.std.specs.Prelude.{codes}
use Rattle.std.proofs.lemmas.Int.{to_z-of_z}
use Rattle.ttw_text.specs.Numbers.{signed_spelled}
use Rattle.replayer.specs.Trace.{message_name, node_name, values_text}
use Rattle.replayer.proofs.Joining.{head_fails, headed, mid_fails, three}
use Rattle.replayer.proofs.LineTexts.{line_of, two_names, packet_text}
use Rattle.replayer.proofs.line.put_packet.Goals as goal

pub returns-clause-put : goal.returns-clause-put
returns-clause-put g c =
    let fits : FitsSigned w64 c.args.at = search rules in
    three c.put.result _ _ _ _ c.args.buffer.now _ _ _ _ _ (codes " taken") _ c.in_ok-put_all.ensures.put.room c.in_ok-put_all.ensures.put.ok c.in_ok-put_values.ensures.put.room c.in_ok-put_values.ensures.put.ok c.put.ensures.put
    (headed _ _ _ (codes " taken") _ (line_of _ _ (codes " send ") _ _ (simp to_z-of_z at c.signed.ensures) (two_names _ _ _ _ c.node-node.ensures c.message-message.ensures))
    (packet_text (signed_spelled c.args.at) (codes " send ") (node_name c.args.names.now c.args.node) (message_name c.args.names.now c.args.packet.now.message) (values_text c.args.packet.now.values) (codes " taken")))

pub returns-in_err-put_values-clause-put : goal.returns-in_err-put_values-clause-put
returns-in_err-put_values-clause-put g c =
    let fits : FitsSigned w64 c.args.at = search rules in
    mid_fails c.from_residual-in_err-put_values.result _ _ _ c.args.buffer.now _ _ _ _ (codes " taken") _ c.from_residual-in_err-put_values.ensures.0 c.in_ok-put_all.ensures.put.room c.in_ok-put_all.ensures.put.ok c.in_err-put_values.ensures.put.room c.in_err-put_values.ensures.put.err
    (headed _ _ _ (codes " taken") _ (line_of _ _ (codes " send ") _ _ (simp to_z-of_z at c.signed.ensures) (two_names _ _ _ _ c.node-node.ensures c.message-message.ensures))
    (packet_text (signed_spelled c.args.at) (codes " send ") (node_name c.args.names.now c.args.node) (message_name c.args.names.now c.args.packet.now.message) (values_text c.args.packet.now.values) (codes " taken")))

pub returns-in_err-put_all-clause-put : goal.returns-in_err-put_all-clause-put
returns-in_err-put_all-clause-put g c =
    let fits : FitsSigned w64 c.args.at = search rules in
    head_fails c.from_residual.result _ _ c.args.buffer.now _ _ (values_text c.args.packet.now.values) (codes " taken") _ c.from_residual.ensures.0 c.in_err-put_all.ensures.put.room c.in_err-put_all.ensures.put.err
    (headed _ _ _ (codes " taken") _ (line_of _ _ (codes " send ") _ _ (simp to_z-of_z at c.signed.ensures) (two_names _ _ _ _ c.node-node.ensures c.message-message.ensures))
    (packet_text (signed_spelled c.args.at) (codes " send ") (node_name c.args.names.now c.args.node) (message_name c.args.names.now c.args.packet.now.message) (values_text c.args.packet.now.values) (codes " taken")))
