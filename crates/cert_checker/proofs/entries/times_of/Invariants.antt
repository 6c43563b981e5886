use Rattle.std.proofs.Common.{◌≡◌, ◌++◌, length, map, pos, All}
use Rattle.sched_model.specs.TimeLimits.{IsTime}
use Rattle.proof_tree.specs.Grammar.{value}
use Rattle.cert_checker.proofs.entries.times_of.Given as goal

abbrev pub invariant-loop-word : goal.invariant-loop-word
invariant-loop-word l = record {
  times : l.times.items ++ map pos (map value l.left) ≡ map pos (map value l.words);
  few : All IsTime l.times.items;
}

abbrev pub decreases-loop-word : goal.decreases-loop-word
decreases-loop-word l = length l.left
