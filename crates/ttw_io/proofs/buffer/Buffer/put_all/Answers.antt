use Rattle.std.proofs.Common.{arith, ◌∙◌}
use Rattle.ttw_io.proofs.BufferLemmas.{front_more, has_put_front, puts_more}
use Rattle.ttw_io.proofs.buffer.Buffer.put_all.Goals as goal

pub returns-in_err-put-clause-put : goal.returns-in_err-put-clause-put
returns-in_err-put-clause-put g c =
    has_put_front c.from_residual.result _ _ c.args.self.now c.put.new.self _ c.from_residual.ensures.0 (c.in_err-put.ensures.put.room ∙ c.loop-text.invariant.room)
    (front_more (λ t. t.now) _ _ _ _ c.loop-text.self c.args.texts.now c.loop-text.text-index _ c.loop-text-test.true c.loop-text.invariant.puts c.in_err-put.ensures.put.err)

pub loop-text-preserved : goal.loop-text-preserved
loop-text-preserved g c = record {
  puts = puts_more (λ t. t.now) _ _ _ _ c.loop-text.self _ c.args.texts.now c.loop-text.text-index _ c.loop-text-test.true c.loop-text.invariant.room c.loop-text.invariant.puts c.in_ok-put.ensures.put.ok;
  room = c.in_ok-put.ensures.put.room ∙ c.loop-text.invariant.room;
  counted = omega (arith, c.in_ok-put.ensures.sink.counted);
  same_flushes = c.in_ok-put.ensures.sink.same_flushes ∙ c.loop-text.invariant.same_flushes;
}
