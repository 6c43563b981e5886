use Rattle.std.proofs.Common.{◌≡◌, Some, refl}
use Rattle.std.proofs.lemmas.Bool.{cases_Bool}
use Rattle.std.proofs.lemmas.Str.{IsUtf8-from_is_utf8, is_utf8-from_IsUtf8}
use Rattle.std.proofs.Common.{inl, inr}
use Rattle.std.specs.Str.{is_utf8}
use Rattle.toml.specs.View.{table_view}
use Rattle.mode_file.specs.Reading.{document}
use Rattle.mode_file.proofs.reading.top_table_of.Goals as goal

pub returns-in-Err : goal.returns-in-Err
returns-in-Err c =
    let bytes = c.args.text.now in
    elim (cases_Bool (is_utf8 bytes)) [
      | inl utf8 ↦ absurd (c.in-Err.ensures.cases.0 (IsUtf8-from_is_utf8 bytes utf8))
      | inr other ↦ rw other refl
    ]

pub returns-in-Ok-table_from_str : goal.returns-in-Ok-table_from_str
returns-in-Ok-table_from_str c =
    let bytes = c.args.text.now in
    let cases = c.in-Ok.ensures.cases in
    let found : document bytes ≡ Some (table_view c.in-Ok-table_from_str.table) = rw (is_utf8-from_IsUtf8 bytes cases.1, ← cases.0) c.in-Ok-table_from_str.ensures.ok in
    (rw found refl, rw found refl)
