use Rattle.std.proofs.Common.{◌≡◌, ◌*◌, ◌^◌, ◌≤ℤ◌, take, pos, ◌+ℤ◌}
use Rattle.replayer.specs.Counting.{sum_from}
use Rattle.replayer.proofs.counts.sum_with.Given as goal

abbrev pub invariant-loop-value : goal.invariant-loop-value
invariant-loop-value l = record {
  total : l.total ≡ sum_from l.sum (take l.value-index l.value-items);
  least : l.sum ≤ℤ (l.total +ℤ pos (l.value-index * 2 ^ 63));
  most : l.total ≤ℤ (l.sum +ℤ pos (l.value-index * 2 ^ 63));
}
