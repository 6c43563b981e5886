use Rattle.std.proofs.Common.{◌≡◌, ◌≤◌, ◌&&◌, ℕ, List, int_le, length, take, drop, sym, ap, ◌∙◌, rules, FitsSigned, w64, to_z-of_z}
use Rattle.std.proofs.lemmas.List.{take_rest}
use Rattle.std.specs.Int.{from_be_bytes, cast_signed}
use Rattle.node_tables.proofs.FieldLemmas.{field_ok, field_out}
use Rattle.node_tables.proofs.reader.Reader.long.Goals as goal

pub returns-then-not-is_between-clause-err : goal.returns-then-not-is_between-clause-err
returns-then-not-is_between-clause-err c =
    let at = c.self.inside.at in
    let image = c.self.inside.image.now in
    let room : 8 ≤ length (drop at image) = rw (take_rest image at) at c.in-Some.ensures.cases.enough in
    let same : c.in-Some.field.now ≡ take 8 (drop at image) = rw (take_rest image at) at c.in-Some.ensures.cases.same in
    let value = c.from_be_bytes-value.ensures ∙ ap (λ (bytes : List ℕ). cast_signed w64 (from_be_bytes w64 bytes)) same in
    let fits : FitsSigned w64 c.from_be_bytes-value.result = search rules in
    let test = simp (to_z-of_z c.ranges.low, to_z-of_z c.ranges.high, to_z-of_z fits) at c.is_between.ensures in
    rw (← c.self.view_is) (field_out 8 (λ bytes. cast_signed w64 (from_be_bytes w64 bytes)) (λ z. int_le c.args.low z && int_le z c.args.high) at image c.from_be_bytes-value.result room value (sym test ∙ c.if-not-is_between.true))

pub returns-clause-ok : goal.returns-clause-ok
returns-clause-ok c =
    let at = c.self.inside.at in
    let image = c.self.inside.image.now in
    let room : 8 ≤ length (drop at image) = rw (take_rest image at) at c.in-Some.ensures.cases.enough in
    let same : c.in-Some.field.now ≡ take 8 (drop at image) = rw (take_rest image at) at c.in-Some.ensures.cases.same in
    let value = c.from_be_bytes-value.ensures ∙ ap (λ (bytes : List ℕ). cast_signed w64 (from_be_bytes w64 bytes)) same in
    let fits : FitsSigned w64 c.from_be_bytes-value.result = search rules in
    let test = simp (to_z-of_z c.ranges.low, to_z-of_z c.ranges.high, to_z-of_z fits) at c.is_between.ensures in
    rw (← c.self.view_is, to_z-of_z fits) (field_ok 8 (λ bytes. cast_signed w64 (from_be_bytes w64 bytes)) (λ z. int_le c.args.low z && int_le z c.args.high) at image c.from_be_bytes-value.result room value (sym test ∙ c.if-not-is_between.false))
