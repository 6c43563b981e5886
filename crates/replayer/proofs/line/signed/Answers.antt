use Rattle.std.proofs.Common.{sym, ◌∙◌, arith, rules, FitsSigned, w64}
use Rattle.std.proofs.lemmas.Int.{ints, to_z-of_z}
use Rattle.replayer.proofs.Decimals.{signed_spelled-signed_decimal}
use Rattle.replayer.proofs.line.signed.Goals as goal

pub returns : goal.returns
returns c =
    let fits : FitsSigned w64 c.args.n = search rules in
    c.as_bytes.ensures.value ∙ (simp to_z-of_z at c.format.ensures.text) ∙ sym (signed_spelled-signed_decimal c.args.n (omega (arith, ints)))
