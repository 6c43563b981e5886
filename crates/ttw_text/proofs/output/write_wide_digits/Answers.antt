use Rattle.std.proofs.Common.{◌≡◌, ◌+◌, ◌-◌, arith, append_assoc}
use Rattle.std.proofs.lemmas.List.{drop-set}
use Rattle.ttw_text.proofs.Spellings.{spelled_step, length-spelled_step}
use Rattle.ttw_text.proofs.output.write_wide_digits.Goals as goal

pub overflow_sub-at : goal.overflow_sub-at
overflow_sub-at c = omega (arith, length-spelled_step c.loop-left.left (omega arith))

pub bounds-buffer-at : goal.bounds-buffer-at
bounds-buffer-at c = omega (arith, length-spelled_step c.loop-left.left (omega arith))

pub loop-left-preserved : goal.loop-left-preserved
loop-left-preserved c =
    let l = c.loop-left in
    let long = length-spelled_step l.left (omega arith) in
    let e : l.at - 1 + 1 ≡ l.at = omega arith in
    record {
      room = omega arith;
      before = omega arith;
      places = omega arith;
      written =
          rw (drop-set l.buffer (l.at - 1) _ (omega arith), e)
          (rw (spelled_step l.left (omega arith), append_assoc) at l.invariant.written);
    }
