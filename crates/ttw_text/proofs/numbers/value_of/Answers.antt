use Rattle.std.proofs.Common.{◌≡◌, ◌+◌, ◌-◌, ◌*◌, ◌^◌, ◌≤◌, true, ◌∙◌, sym, arith, get_or}
use Rattle.std.specs.Char.{is_ascii_digit}
use Rattle.ttw_text.proofs.NumberLemmas.{over_at, end_at}
use Rattle.ttw_text.proofs.numbers.value_of.Goals as goal

pub returns-in_err-checked_mul : goal.returns-in_err-checked_mul
returns-in_err-checked_mul c =
    let l = c.loop-digit in
    let digit : is_ascii_digit (get_or c.args.digits.now l.digit-index 0) ≡ true = sym c.is_ascii_digit.ensures.value ∙ c.if-not-is_ascii_digit.false in
    let over : 2 ^ 64 ≤ l.value * 10 + (get_or c.args.digits.now l.digit-index 0 - 48) = omega (arith, c.in_err-checked_mul.ensures {u = tt}) in
    c.from_residual.ensures ∙ over_at l.value l.digit-index c.args.digits.now c.loop-digit-test.true digit over l.invariant.so_far

pub returns-in_err-value : goal.returns-in_err-value
returns-in_err-value c =
    let l = c.loop-digit in
    let digit : is_ascii_digit (get_or c.args.digits.now l.digit-index 0) ≡ true = sym c.is_ascii_digit.ensures.value ∙ c.if-not-is_ascii_digit.false in
    let over : 2 ^ 64 ≤ l.value * 10 + (get_or c.args.digits.now l.digit-index 0 - 48) = omega (arith, c.in_err-value.ensures {u = tt}, c.in_ok-checked_mul.ensures {u = tt}) in
    c.from_residual-in_err-value.ensures ∙ over_at l.value l.digit-index c.args.digits.now c.loop-digit-test.true digit over l.invariant.so_far

pub returns : goal.returns
returns c = end_at c.loop-digit.value c.loop-digit.digit-index c.args.digits.now c.loop-digit-test.false c.loop-digit.invariant.fits c.loop-digit.invariant.so_far
