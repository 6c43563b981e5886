use Rattle.std.proofs.Common.{◌≡◌, ◌+◌, drop}
use Rattle.constraint_set.specs.Flat.{place_in}
use Rattle.constraint_set.proofs.flat.find_task.Given as goal

abbrev pub invariant-loop-place : goal.invariant-loop-place
invariant-loop-place l = l.place + place_in (drop l.place l.tasks) l.number ≡ place_in l.tasks l.number
