use Rattle.std.proofs.Common.{◌≡◌, ◌++◌, take, map}
use Rattle.std.specs.List.{flat_map}
use Rattle.proof_tree.specs.WordSpelling.{spelled_time, after_space}
use Rattle.proof_tree.proofs.words.write_times.Given as goal

abbrev pub invariant-loop-time : goal.invariant-loop-time
invariant-loop-time l = l.out ≡ l.initial.out ++ flat_map after_space (map spelled_time (take l.time-index l.times))
