use Rattle.std.proofs.Common.{◌≡◌}
use Rattle.drill.specs.Generated.{below, raw_mode}
use Rattle.drill.proofs.generated.modes.Given as goal

abbrev pub invariant-loop-m : goal.invariant-loop-m
invariant-loop-m l = l.modes.items ≡ below l.m (raw_mode l.seed)
