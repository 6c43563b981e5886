use Rattle.std.proofs.Common.{◌∙◌, arith, length-drop}
use Rattle.std.proofs.lemmas.List.{take_rest}
use Rattle.ttw_io.proofs.WritingLemmas.{added_more}
use Rattle.ttw_io.proofs.writing.write_all.Goals as goal

pub loop-done-preserved : goal.loop-done-preserved
loop-done-preserved g c = record {
  within = omega (arith, c.in_ok-done.ensures.room, length-drop c.loop-done.done c.args.text.now);
  added = added_more _ _ _ c.args.text.now c.loop-done.done c.in_ok-done.field-0 c.loop-done.invariant.added (rw take_rest at c.in_ok-done.ensures.added);
  counted = omega (arith, c.in_ok-done.ensures.counted);
  same_flushes = c.in_ok-done.ensures.same_flushes ∙ c.loop-done.invariant.same_flushes;
}
