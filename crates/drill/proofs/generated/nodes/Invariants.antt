use Rattle.std.proofs.Common.{◌≡◌, codes}
use Rattle.drill.specs.Generated.{below, lettered}
use Rattle.drill.proofs.generated.nodes.Given as goal

abbrev pub invariant-loop-n : goal.invariant-loop-n
invariant-loop-n l = l.names.items ≡ below l.n (lettered (codes "n"))
