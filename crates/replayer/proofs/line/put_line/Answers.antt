use Rattle.std.proofs.Common.{rules, FitsSigned, w64, sym, ap}
use Rattle.std.proofs.lemmas.Int.{to_z-of_z}
use Rattle.world_core.specs.Done.{whole}
use Rattle.replayer.specs.Trace.{line}
use Rattle.ttw_io.proofs.BufferLemmas.{has_put_same}
use Rattle.replayer.proofs.line.put_line.Goals as goal

pub returns-in-Beacon-clause-put : goal.returns-in-Beacon-clause-put
returns-in-Beacon-clause-put g c =
    let fits : FitsSigned w64 c.in-Beacon.at = search rules in
    has_put_same c.put_beacon.result _ _ c.args.buffer.now _ _ _ (ap (λ d. line c.args.names.now (whole d c.args.inputs.now)) (sym c.in-Beacon.is)) (simp to_z-of_z at c.put_beacon.ensures.put)

pub returns-in-Sent-clause-put : goal.returns-in-Sent-clause-put
returns-in-Sent-clause-put g c =
    let fits : FitsSigned w64 c.in-Sent.at = search rules in
    has_put_same c.put_sent.result _ _ c.args.buffer.now _ _ _ (ap (λ d. line c.args.names.now (whole d c.args.inputs.now)) (sym c.in-Sent.is)) (simp to_z-of_z at c.put_sent.ensures.put)
