use Rattle.std.proofs.Common.{refl}
use Rattle.proof_tree.proofs.examples.line_rows.Goals as goal

pub returns : goal.returns
returns c = record { whole = refl; leading_zero = refl; greatest = refl; too_great = refl; two_spaces = refl; space_at_end = refl; empty = refl; capital = refl; no_name = refl; no_start = refl; no_table_number = refl; empty_table = refl }
