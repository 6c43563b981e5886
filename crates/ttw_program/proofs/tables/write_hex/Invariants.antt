use Rattle.std.proofs.Common.{◌≡◌, ◌++◌}
use Rattle.ttw_program.specs.Tables.{hex_text}
use Rattle.ttw_program.proofs.tables.write_hex.Given as goal

abbrev pub invariant-loop-line : goal.invariant-loop-line
invariant-loop-line l = (l.out ++ hex_text l.line-iterator.rest.now ≡ l.fn.out ++ hex_text l.fn.bytes) × (l.line-iterator.size ≡ 32)
