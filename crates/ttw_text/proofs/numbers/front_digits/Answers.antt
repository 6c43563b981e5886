use Rattle.std.proofs.Common.{◌≡◌, ◌+◌, ◌*◌, true, ◌∙◌, sym, subst, get_or}
use Rattle.std.specs.Char.{is_ascii_digit}
use Rattle.ttw_text.proofs.FrontNumbers.{FrontDigits, digit_more}
use Rattle.ttw_text.proofs.numbers.front_digits.Goals as goal

pub loop-at-preserved : goal.loop-at-preserved
loop-at-preserved c =
    let l = c.loop-at in
    let digit : is_ascii_digit (get_or c.args.line.now l.at 0) ≡ true = sym c.is_ascii_digit.ensures.value ∙ c.if-not-is_ascii_digit.false in
    subst (λ n. FrontDigits c.args.line.now (l.at + 1) (l.value * 10 + n)) (sym c.from.ensures) (digit_more c.args.line.now l.at l.value c.loop-at-test.true digit l.invariant)
