use Rattle.std.proofs.Common.{arith, ◌∙◌, ◌∷◌, ap, ℤ, List, Option}
use Rattle.replayer.specs.Trace.{input_text, inputs_text}
use Rattle.ttw_io.proofs.BufferLemmas.{front_more, front_same, has_put_front, puts_more, puts_same}
use Rattle.replayer.proofs.LineTexts.{blank_text}
use Rattle.replayer.proofs.line.put_inputs.Goals as goal

pub loop-input-preserved : goal.loop-input-preserved
loop-input-preserved g c = record {
  puts = puts_more (λ i. 32 ∷ input_text i) _ _ _ _ c.loop-input.buffer _ c.as_slice-input-items.result.now c.loop-input.input-index _ c.loop-input-test.true c.loop-input.invariant.room c.loop-input.invariant.puts (puts_same _ _ _ _ _ _ (blank_text _ _ c.input_bytes.ensures) c.in_ok-put_all.ensures.put.ok);
  room = c.in_ok-put_all.ensures.put.room ∙ c.loop-input.invariant.room;
  counted = omega (arith, c.in_ok-put_all.ensures.sink.counted);
  same_flushes = c.in_ok-put_all.ensures.sink.same_flushes ∙ c.loop-input.invariant.same_flushes;
}

pub returns-in_err-put_all-clause-put : goal.returns-in_err-put_all-clause-put
returns-in_err-put_all-clause-put g c =
    let front = front_same _ _ _ _ _ (blank_text _ _ c.input_bytes.ensures) c.in_err-put_all.ensures.put.err in
    has_put_front c.from_residual.result _ _ c.args.buffer.now _ _ c.from_residual.ensures.0 (c.in_err-put_all.ensures.put.room ∙ c.loop-input.invariant.room)
    (front_same _ _ c.args.buffer.now.bytes _ _ (ap (λ (xs : List (Option ℤ)). inputs_text xs) c.as_slice-input-items.ensures)
    (front_more (λ i. 32 ∷ input_text i) _ _ _ _ c.loop-input.buffer c.as_slice-input-items.result.now c.loop-input.input-index _ c.loop-input-test.true c.loop-input.invariant.puts front))
