use Rattle.std.proofs.Common.{◌≡◌, take, map, unsigned_abs}
use Rattle.constraint_set.proofs.flat.make_periods.Given as goal

abbrev pub invariant-loop-app : goal.invariant-loop-app
invariant-loop-app l = l.periods.items ≡ map (λ a. unsigned_abs a.period) (take l.app-index l.apps)
