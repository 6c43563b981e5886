use Rattle.std.proofs.Common.{refl}
use Rattle.proof_tree.proofs.examples.place_rows.Goals as goal

pub returns : goal.returns
returns c = λ m. record { whole = refl; empty = refl; past = refl; unfed = refl; byte_past = refl; other_name = refl; cut = refl; count = refl; early = refl; starts = refl; zeros = refl; other_table = refl; unknown_message = refl }
