use Rattle.std.proofs.Common.{rules, FitsSigned, w64}
use Rattle.std.specs.Prelude.{codes, ◌∷◌, []}
use Rattle.std.proofs.lemmas.Int.{to_z-of_z}
use Rattle.ttw_text.specs.Numbers.{signed_spelled}
use Rattle.replayer.specs.Trace.{message_name, node_name, nodes_text, values_text}
use Rattle.replayer.proofs.Joining.{head_fails, mid_fails, three}
use Rattle.replayer.proofs.LineTexts.{sent_text}
use Rattle.replayer.proofs.line.put_sent.Goals as goal

pub returns-clause-put : goal.returns-clause-put
returns-clause-put g c =
    let fits : FitsSigned w64 c.args.at = search rules in
    let head = simp to_z-of_z at c.in_ok-put_packet.ensures.put in
    three c.put.result _ _ _ _ c.args.buffer.now _ _ _ _ _ (10 ∷ []) _ head.room head.ok c.in_ok-put_nodes.ensures.put.room c.in_ok-put_nodes.ensures.put.ok c.put.ensures.put
    (sent_text (signed_spelled c.args.at) (codes " send ") (node_name c.args.names.now c.args.node) (message_name c.args.names.now c.args.packet.now.message) (values_text c.args.packet.now.values) (codes " taken") (nodes_text c.args.names.now c.args.taken) (10 ∷ []))

pub returns-in_err-put_nodes-clause-put : goal.returns-in_err-put_nodes-clause-put
returns-in_err-put_nodes-clause-put g c =
    let fits : FitsSigned w64 c.args.at = search rules in
    let head = simp to_z-of_z at c.in_ok-put_packet.ensures.put in
    mid_fails c.from_residual-in_err-put_nodes.result _ _ _ c.args.buffer.now _ _ _ _ (10 ∷ []) _ c.from_residual-in_err-put_nodes.ensures.0 head.room head.ok c.in_err-put_nodes.ensures.put.room c.in_err-put_nodes.ensures.put.err
    (sent_text (signed_spelled c.args.at) (codes " send ") (node_name c.args.names.now c.args.node) (message_name c.args.names.now c.args.packet.now.message) (values_text c.args.packet.now.values) (codes " taken") (nodes_text c.args.names.now c.args.taken) (10 ∷ []))

pub returns-in_err-put_packet-clause-put : goal.returns-in_err-put_packet-clause-put
returns-in_err-put_packet-clause-put g c =
    let fits : FitsSigned w64 c.args.at = search rules in
    let head = simp to_z-of_z at c.in_err-put_packet.ensures.put in
    head_fails c.from_residual.result _ _ c.args.buffer.now _ _ (nodes_text c.args.names.now c.args.taken) (10 ∷ []) _ c.from_residual.ensures.0 head.room head.err
    (sent_text (signed_spelled c.args.at) (codes " send ") (node_name c.args.names.now c.args.node) (message_name c.args.names.now c.args.packet.now.message) (values_text c.args.packet.now.values) (codes " taken") (nodes_text c.args.names.now c.args.taken) (10 ∷ []))
