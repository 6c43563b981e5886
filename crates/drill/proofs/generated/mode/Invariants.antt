use Rattle.std.proofs.Common.{◌≡◌}
use Rattle.drill.specs.Generated.{below, raw_app}
use Rattle.drill.proofs.generated.mode.Given as goal

abbrev pub invariant-loop-i : goal.invariant-loop-i
invariant-loop-i l = l.apps.items ≡ below l.i (raw_app l.seed l.m)
