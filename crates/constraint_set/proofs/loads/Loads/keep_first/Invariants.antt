use Rattle.std.proofs.Common.{◌≡◌, length}
use Rattle.constraint_set.specs.Loads.{first}
use Rattle.constraint_set.proofs.loads.Loads.keep_first.Given as goal

abbrev pub invariant-loop-self : goal.invariant-loop-self
invariant-loop-self l = first l.kept l.self ≡ first l.kept l.initial.self

abbrev pub decreases-loop-self : goal.decreases-loop-self
decreases-loop-self l = length l.self.named
