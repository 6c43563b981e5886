use Rattle.std.proofs.Common.{◌≡◌, ◌^◌, ◌<◌, drop}
use Rattle.ttw_text.proofs.NumberLemmas.{read_on}
use Rattle.ttw_text.proofs.numbers.value_of.Given as goal

abbrev pub invariant-loop-digit : goal.invariant-loop-digit
invariant-loop-digit l = record {
  fits : l.value < 2 ^ 64;
  so_far : read_on l.value (drop l.digit-index l.digits) ≡ read_on 0 l.digits;
}
