use Rattle.std.proofs.Common.{arith, rules, ◌∙◌, ◌∷◌, ap, get_or, FitsSigned, w64, ℤ, pos, List}
use Rattle.std.proofs.lemmas.Int.{to_z-of_z}
use Rattle.ttw_text.specs.Numbers.{signed_spelled}
use Rattle.replayer.specs.Trace.{values_text}
use Rattle.ttw_io.proofs.BufferLemmas.{front_more, front_same, has_put_front, puts_more, puts_same}
use Rattle.replayer.proofs.LineTexts.{blank_text}
use Rattle.replayer.proofs.line.put_values.Goals as goal

pub loop-value-preserved : goal.loop-value-preserved
loop-value-preserved g c =
    let value = get_or c.as_slice-value-items.result.now c.loop-value.value-index (pos 0) in
    let fits : FitsSigned w64 value = search rules in
    record {
      puts = puts_more (λ x. 32 ∷ signed_spelled x) _ _ _ _ c.loop-value.buffer _ c.as_slice-value-items.result.now c.loop-value.value-index (pos 0) c.loop-value-test.true c.loop-value.invariant.room c.loop-value.invariant.puts (puts_same _ _ _ _ _ _ (blank_text _ _ (simp to_z-of_z at c.signed.ensures)) c.in_ok-put_all.ensures.put.ok);
      room = c.in_ok-put_all.ensures.put.room ∙ c.loop-value.invariant.room;
      counted = omega (arith, c.in_ok-put_all.ensures.sink.counted);
      same_flushes = c.in_ok-put_all.ensures.sink.same_flushes ∙ c.loop-value.invariant.same_flushes;
    }

pub returns-in_err-put_all-clause-put : goal.returns-in_err-put_all-clause-put
returns-in_err-put_all-clause-put g c =
    let value = get_or c.as_slice-value-items.result.now c.loop-value.value-index (pos 0) in
    let fits : FitsSigned w64 value = search rules in
    let front = front_same _ _ _ _ _ (blank_text _ _ (simp to_z-of_z at c.signed.ensures)) c.in_err-put_all.ensures.put.err in
    has_put_front c.from_residual.result _ _ c.args.buffer.now _ _ c.from_residual.ensures.0 (c.in_err-put_all.ensures.put.room ∙ c.loop-value.invariant.room)
    (front_same _ _ c.args.buffer.now.bytes _ _ (ap (λ (xs : List ℤ). values_text xs) c.as_slice-value-items.ensures.value)
    (front_more (λ x. 32 ∷ signed_spelled x) _ _ _ _ c.loop-value.buffer c.as_slice-value-items.result.now c.loop-value.value-index (pos 0) c.loop-value-test.true c.loop-value.invariant.puts front))
