use Rattle.std.proofs.Common.{◌≡◌, ◌+◌, ◌-◌, arith, append-nil, to_z-of_z}
use Rattle.std.proofs.lemmas.List.{drop-set, drop_all}
use Rattle.ttw_text.proofs.Spellings.{length-spelled_wide, minus_first}
use Rattle.ttw_text.proofs.output.write_signed.Goals as goal

pub write_wide_digits-start-requires-clause-room : goal.write_wide_digits-start-requires-clause-room
write_wide_digits-start-requires-clause-room c = omega (arith, length-spelled_wide c.unsigned_abs.result c.unsigned_abs.type_inv)

pub overflow_sub-buffer : goal.overflow_sub-buffer
overflow_sub-buffer c = omega (arith, length-spelled_wide c.unsigned_abs.result c.unsigned_abs.type_inv)

pub overflow_sub-result : goal.overflow_sub-result
overflow_sub-result c = omega (arith, length-spelled_wide c.unsigned_abs.result c.unsigned_abs.type_inv)

pub returns-clause-written : goal.returns-clause-written
returns-clause-written c =
    let w = c.write_wide_digits-start in
    let long = length-spelled_wide c.unsigned_abs.result c.unsigned_abs.type_inv in
    let e : w.result - 1 + 1 ≡ w.result = omega arith in
    let back = to_z-of_z c.ranges.n in
    rw (drop-set w.new.buffer (w.result - 1) 45 (omega arith), e, w.ensures.written, drop_all 40 c.args.buffer.now (omega arith), append-nil, c.unsigned_abs.ensures.value, back)
    (minus_first c.args.n (rw back at c.if-n-ge0.false))
