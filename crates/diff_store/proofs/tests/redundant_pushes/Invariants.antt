use Rattle.std.proofs.Common.{◌+◌, ◌-◌}
use Rattle.diff_store.proofs.Testing.{Ready}
use Rattle.diff_store.proofs.tests.redundant_pushes.Given as goal

abbrev pub invariant-loop-i : goal.invariant-loop-i
invariant-loop-i g l = Ready 500 4499 l.i l.store

abbrev pub invariant-loop-i-2 : goal.invariant-loop-i-2
invariant-loop-i-2 g l = Ready 500 4499 (499 + l.i) l.store

abbrev pub invariant-loop-i-3 : goal.invariant-loop-i-3
invariant-loop-i-3 g l = Ready 500 4499 (4499 - l._i) l.store

abbrev pub invariant-loop-round : goal.invariant-loop-round
invariant-loop-round g l = Ready 500 4499 499 l.store
