use Rattle.std.proofs.Common.{◌≡◌, ◌≤◌, ◌+◌, ◌*◌, ◌++◌, drop}
use Rattle.runtime_model.specs.Plans.{first_rounds}
use Rattle.mode_change.proofs.host.first_numbers.Given as goal

-- the numbers so far, then those of the rest from `first` on, are all; no mode has more than 256 rounds
abbrev pub invariant-loop-count : goal.invariant-loop-count
invariant-loop-count l = (l.firsts.items ++ first_rounds l.first (drop l.count-index l.rounds) ≡ first_rounds 1 l.rounds) × (l.first ≤ 1 + 256 * l.count-index)
