use Rattle.std.proofs.Common.{◌≡◌, true, false}
use Rattle.toml.specs.View.{view}
use Rattle.mode_file.specs.Tables.{TextArray, has_kind}
use Rattle.mode_file.proofs.Arrays.{texts_kind, array_seen}
use Rattle.mode_file.proofs.values.texts_in.Goals as goal

pub returns-then-are_texts : goal.returns-then-are_texts
returns-then-are_texts c =
    let kind = texts_kind (view c.args.value.now) _ c.in-Some.ensures in
    let seen = array_seen (view c.args.value.now) _ c.in-Some.ensures in
    let has : has_kind TextArray (view c.args.value.now) ≡ true = cc in
    rw (has, seen, ← c.deref-then-are_texts.ensures.value) c.texts_among.ensures

pub returns-else-are_texts : goal.returns-else-are_texts
returns-else-are_texts c =
    let kind = texts_kind (view c.args.value.now) _ c.in-Some.ensures in
    let lacks : has_kind TextArray (view c.args.value.now) ≡ false = cc in
    rw lacks
