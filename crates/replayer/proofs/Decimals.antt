-- The numbers that are printed are spelled.
use Rattle.std.proofs.Common.{◌≡◌, ◌<◌, ◌^◌, ℤ, pos, negsuc, suc, unsigned_abs, ap, List, ℕ, ◌∷◌}
use Rattle.std.specs.Fmt.{signed_decimal}
use Rattle.ttw_text.specs.Numbers.{signed_spelled}
use Rattle.ttw_text.proofs.Spellings.{spelled-decimal}

pub signed_spelled-signed_decimal : (z : ℤ) → unsigned_abs z < 10 ^ 64 → signed_spelled z ≡ signed_decimal z
signed_spelled-signed_decimal (pos n) fits = spelled-decimal n fits
signed_spelled-signed_decimal (negsuc n) fits = ap (λ (ds : List ℕ). 45 ∷ ds) (spelled-decimal (suc n) fits)
