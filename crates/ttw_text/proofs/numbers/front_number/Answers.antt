use Rattle.std.proofs.Common.{◌≢◌, ◌+◌, ◌≤◌, ◌⊎◌, inl, inr, get_or, arith}
use Rattle.std.proofs.lemmas.List.{take_rest}
use Rattle.ttw_text.proofs.FrontNumbers.{FrontDigits, all_front, part_front}
use Rattle.ttw_text.proofs.numbers.front_number.Goals.{else-at-gt1-via-then-at-gt1+else-line-eq48, else-at-gt1-via-else-at-gt1}
use Rattle.ttw_text.proofs.numbers.front_number.Goals as goal

pub returns-then-at-line : goal.returns-then-at-line
returns-then-at-line c =
    let line = c.args.line.now in
    let f = c.in_ok-value in
    let front : FrontDigits line f.at f.value = record { digits = f.ensures.digits; writes = f.ensures.value; within = f.ensures.within } in
    let zeros : (f.at ≤ 1) ⊎ (get_or line 0 0 ≢ 48) = elim c.else-at-gt1.branch [ else-at-gt1-via-then-at-gt1+else-line-eq48 w ↦ inr (omega arith) | else-at-gt1-via-else-at-gt1 w ↦ inl (omega arith) ] in
    all_front line f.at f.value front (omega arith) (omega arith) zeros (omega arith)

pub returns : goal.returns
returns c =
    let line = c.args.line.now in
    let f = c.in_ok-value in
    let front : FrontDigits line f.at f.value = record { digits = f.ensures.digits; writes = f.ensures.value; within = f.ensures.within } in
    let zeros : (f.at ≤ 1) ⊎ (get_or line 0 0 ≢ 48) = elim c.else-at-gt1.branch [ else-at-gt1-via-then-at-gt1+else-line-eq48 w ↦ inr (omega arith) | else-at-gt1-via-else-at-gt1 w ↦ inl (omega arith) ] in
    rw (take_rest line (f.at + 1)) (part_front line f.at f.value front (omega arith) (omega arith) zeros (omega arith) (f.ensures.end (omega arith)))
