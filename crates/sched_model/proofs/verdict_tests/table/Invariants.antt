use Rattle.std.proofs.Common.{◌≡◌, ℕ, ◌<◌, length, get_or}
use Rattle.sched_model.proofs.verdict_tests.table.Given as goal

abbrev pub invariant-loop-number : goal.invariant-loop-number
invariant-loop-number l = record {
  count : length l.items.items ≡ l.number-index;
  numbers : (k d : ℕ) → k < length l.items.items → get_or l.items.items k d < 2;
}
