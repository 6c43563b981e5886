use Rattle.std.proofs.Common.{length, ◌-◌}
use Rattle.ttw_text.proofs.FrontNumbers.{FrontDigits}
use Rattle.ttw_text.proofs.numbers.front_digits.Given as goal

abbrev pub invariant-loop-at : goal.invariant-loop-at
invariant-loop-at l = FrontDigits l.line l.at l.value

abbrev pub decreases-loop-at : goal.decreases-loop-at
decreases-loop-at l = length l.line - l.at
