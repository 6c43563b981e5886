use Rattle.std.proofs.Common.{◌-◌}
use Rattle.diff_store.proofs.Testing.{Ready}
use Rattle.diff_store.proofs.tests.long_chain.Given as goal

abbrev pub invariant-loop-i-2 : goal.invariant-loop-i-2
invariant-loop-i-2 g l = Ready 500 500 l.i l.store

abbrev pub invariant-loop-i-4 : goal.invariant-loop-i-4
invariant-loop-i-4 g l = Ready 500 500 (499 - l._i) l.store
