use Rattle.std.proofs.Common.{◌≡◌, ℕ, ◌<◌, ℤ, length, get_or}
use Rattle.sched_model.specs.TimeLimits.{IsTime}
use Rattle.sched_model.proofs.verdict_tests.times.Given as goal

abbrev pub invariant-loop-tick : goal.invariant-loop-tick
invariant-loop-tick l = record {
  count : length l.items.items ≡ l.tick-index;
  times : (k : ℕ) (d : ℤ) → k < length l.items.items → IsTime (get_or l.items.items k d);
}
