use Rattle.std.proofs.Common.{◌≡◌, true, false, refl}
use Rattle.toml.specs.View.{view}
use Rattle.mode_file.specs.Tables.{TableArray, has_kind}
use Rattle.mode_file.proofs.Arrays.{tables_kind, array_seen}
use Rattle.mode_file.proofs.values.tables_in.Goals as goal

pub returns-then-are_tables : goal.returns-then-are_tables
returns-then-are_tables c =
    let kind = tables_kind (view c.args.value.now) _ c.in-Some.ensures in
    let seen = array_seen (view c.args.value.now) _ c.in-Some.ensures in
    let has : has_kind TableArray (view c.args.value.now) ≡ true = cc in
    (rw has refl, rw (seen, c.as_slice.ensures.value) refl)

pub returns-else-are_tables : goal.returns-else-are_tables
returns-else-are_tables c =
    let kind = tables_kind (view c.args.value.now) _ c.in-Some.ensures in
    let lacks : has_kind TableArray (view c.args.value.now) ≡ false = cc in
    rw lacks
