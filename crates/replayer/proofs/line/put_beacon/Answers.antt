use Rattle.std.proofs.Common.{◌∙◌, ap, rules, FitsSigned, w64}
use Rattle.std.specs.Prelude.{codes, ◌∷◌, []}
use Rattle.std.proofs.lemmas.Int.{to_z-of_z}
use Rattle.ttw_text.specs.Numbers.{signed_spelled, spelled}
use Rattle.replayer.specs.Trace.{mode_name, nodes_text}
use Rattle.replayer.proofs.Joining.{head_fails, headed, mid_fails, three}
use Rattle.replayer.proofs.LineTexts.{line_of, beacon_text, beacon_words}
use Rattle.beacon_codec.specs.Beacon.{flags_of}
use Rattle.replayer.proofs.line.put_beacon.Goals as goal

pub returns-clause-put : goal.returns-clause-put
returns-clause-put g c =
    let fits : FitsSigned w64 c.args.at = search rules in
    three c.put.result _ _ _ _ c.args.buffer.now _ _ _ _ _ (10 ∷ []) _ c.in_ok-put_all.ensures.put.room c.in_ok-put_all.ensures.put.ok c.in_ok-put_nodes.ensures.put.room c.in_ok-put_nodes.ensures.put.ok c.put.ensures.put
    (headed _ _ _ (10 ∷ []) _ (line_of _ _ (codes " beacon ") _ _ (simp to_z-of_z at c.signed-tick.ensures) (beacon_words _ (spelled c.args.beacon.round) _ (mode_name c.args.names.now c.args.beacon.mode) _ (spelled (flags_of c.args.beacon)) (codes " heard") (c.number-round.ensures ∙ ap spelled c.from.ensures) (c.mode-mode.ensures ∙ ap (λ m. mode_name c.args.names.now m) c.from-2.ensures) (c.number-flags.ensures ∙ ap spelled (c.from-3.ensures ∙ c.flags.ensures))))
    (beacon_text (signed_spelled c.args.at) (codes " beacon ") (spelled c.args.beacon.round) (mode_name c.args.names.now c.args.beacon.mode) (spelled (flags_of c.args.beacon)) (codes " heard") (nodes_text c.args.names.now c.args.heard) (10 ∷ [])))

pub returns-in_err-put_nodes-clause-put : goal.returns-in_err-put_nodes-clause-put
returns-in_err-put_nodes-clause-put g c =
    let fits : FitsSigned w64 c.args.at = search rules in
    mid_fails c.from_residual-in_err-put_nodes.result _ _ _ c.args.buffer.now _ _ _ _ (10 ∷ []) _ c.from_residual-in_err-put_nodes.ensures.0 c.in_ok-put_all.ensures.put.room c.in_ok-put_all.ensures.put.ok c.in_err-put_nodes.ensures.put.room c.in_err-put_nodes.ensures.put.err
    (headed _ _ _ (10 ∷ []) _ (line_of _ _ (codes " beacon ") _ _ (simp to_z-of_z at c.signed-tick.ensures) (beacon_words _ (spelled c.args.beacon.round) _ (mode_name c.args.names.now c.args.beacon.mode) _ (spelled (flags_of c.args.beacon)) (codes " heard") (c.number-round.ensures ∙ ap spelled c.from.ensures) (c.mode-mode.ensures ∙ ap (λ m. mode_name c.args.names.now m) c.from-2.ensures) (c.number-flags.ensures ∙ ap spelled (c.from-3.ensures ∙ c.flags.ensures))))
    (beacon_text (signed_spelled c.args.at) (codes " beacon ") (spelled c.args.beacon.round) (mode_name c.args.names.now c.args.beacon.mode) (spelled (flags_of c.args.beacon)) (codes " heard") (nodes_text c.args.names.now c.args.heard) (10 ∷ [])))

pub returns-in_err-put_all-clause-put : goal.returns-in_err-put_all-clause-put
returns-in_err-put_all-clause-put g c =
    let fits : FitsSigned w64 c.args.at = search rules in
    head_fails c.from_residual.result _ _ c.args.buffer.now _ _ (nodes_text c.args.names.now c.args.heard) (10 ∷ []) _ c.from_residual.ensures.0 c.in_err-put_all.ensures.put.room c.in_err-put_all.ensures.put.err
    (headed _ _ _ (10 ∷ []) _ (line_of _ _ (codes " beacon ") _ _ (simp to_z-of_z at c.signed-tick.ensures) (beacon_words _ (spelled c.args.beacon.round) _ (mode_name c.args.names.now c.args.beacon.mode) _ (spelled (flags_of c.args.beacon)) (codes " heard") (c.number-round.ensures ∙ ap spelled c.from.ensures) (c.mode-mode.ensures ∙ ap (λ m. mode_name c.args.names.now m) c.from-2.ensures) (c.number-flags.ensures ∙ ap spelled (c.from-3.ensures ∙ c.flags.ensures))))
    (beacon_text (signed_spelled c.args.at) (codes " beacon ") (spelled c.args.beacon.round) (mode_name c.args.names.now c.args.beacon.mode) (spelled (flags_of c.args.beacon)) (codes " heard") (nodes_text c.args.names.now c.args.heard) (10 ∷ [])))
